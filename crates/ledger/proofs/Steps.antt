-- One call on a well-formed area: its reply is what the ledger's rules say of the area's circuits, the circuits move as
-- the ledger's entries do, and the area stays well formed.
-- Assumes nothing.
use Prim.Native.Nat.{ℕ}
use mathlib.Core.Path.{◌≡◌, refl, sym}
use mathlib.Core.List.{List, [], ◌∷◌}
use mathlib.Core.Logic.{inl, inr}
use mathlib.Core.Option.{Option, none, some}
use Rattle.network.specs.declared.Request.{Request}
use Rattle.area.specs.Station.{Station, station}
use Rattle.area.specs.Books.{Books, books}
use Rattle.area.specs.Formed.{WellFormed}
use Rattle.area.specs.Moves.{with_circuit, without_number}
use Rattle.area.proofs.Keeps.{unheld_stays}
use Rattle.area.specs.Refusals.{◌when◌, refuses, grants, Answered}
use Rattle.area.proofs.Refusals.{past}
use Rattle.rules.specs.Replies.{PathReply, ReleaseReply}
use Rattle.rules.specs.Calls.{quote, admission, booked, release, cleared}
use Rattle.rules.specs.Meaning.{books_in}
use Rattle.rules.proofs.Meaning.{quote_means, admission_means, release_means}
use Rattle.rules.proofs.Bookings.{admitted_station, admitted_formed, released_station, released_formed}
use Rattle.rules.specs.AdmitJobs.{admit_jobs}
use Rattle.rules.proofs.Jobs.{jobs_means, jobs_formed}
use Rattle.ledger.specs.Entries.{Call, quoting, admitting, releasing, admitting_jobs, ReplyTo, told, entry, rules, Grants}
use Rattle.ledger.specs.History.{reply_to, area_after}

-- a reply is what the ledger says of a call: refused by the first rule that applies, else as it grants
abbrev pub Says : Books → (q : Call ℕ) → ReplyTo q → Type 0
Says o q a = Answered (Grants o q) (rules o q) a

-- how the circuits of a station move: as the ledger's entries do, but that a circuit stands at its place
abbrev pub station_moved : Station → Call ℕ → Option (List ℕ) → Station
station_moved s (quoting work path r) granted = s
station_moved s (admitting work path c r) none = s
station_moved s (admitting work path c r) (some p) = with_circuit s (entry c r p)
station_moved s (releasing c) granted = without_number s c
station_moved s (admitting_jobs work jobs answers) granted = s

-- a call for one job or none: what it books is told by its own reply
abbrev pub Single : Call ℕ → Type 0
Single (quoting work path r) = Unit
Single (admitting work path c r) = Unit
Single (releasing c) = Unit
Single (admitting_jobs work jobs answers) = ⊥

module _ (w : List ℕ) (formed : WellFormed w) where
  -- 5 is not given
  past_five : (q : Call ℕ) (a : ReplyTo q) → Answered (Grants (books_in w) q) ((5 when (WellFormed w → ⊥)) ∷ rules (books_in w) q) a
      → Says (books_in w) q a
  past_five q a h = past (Grants (books_in w) q) ((5 when (WellFormed w → ⊥)) ∷ []) (rules (books_in w) q) a (λ lacks. lacks formed, tt) h

  pub says : (q : Call ℕ) → Says (books_in w) q (reply_to w q)
  says (quoting work path r) = past_five (quoting work path r) (quote w work path r) (quote_means w work path r)
  says (admitting work path c r) =
      past_five (admitting work path c r) (admission w work path c r) (admission_means w work path r c)
  says (releasing c) = past_five (releasing c) (release w c) (release_means w c)
  says (admitting_jobs work jobs answers) =
      past_five (admitting_jobs work jobs answers) (admit_jobs w work jobs answers) (jobs_means w work jobs answers)

  -- the circuits after an admission, by its reply
  admits : (work path c : ℕ) (r : Request) (a : PathReply) → admission w work path c r ≡ a
      → station (booked w c r.terms.units a) ≡ station_moved (station w) (admitting work path c r) (told (admitting work path c r) a)
  unfolding booked
  admits work path c r (refuses k) e = refl
  admits work path c r (grants g) e = admitted_station w work path c r g e

  -- the circuits after a release, by its reply
  frees : (c : ℕ) (a : ReleaseReply) → release w c ≡ a → Says (books_in w) (releasing c) a → station (cleared w c a) ≡ without_number (station w) c
  unfolding cleared books
  frees c (refuses k) e (inl (lacks, _)) = sym (unheld_stays (station w) c lacks)
  frees c (refuses k) e (inr (_, h)) = absurd h
  frees c (grants _) e h = released_station w c e

  pub moves : (q : Call ℕ) → Single q → station (area_after w q) ≡ station_moved (station w) q (told q (reply_to w q))
  moves (quoting work path r) one = refl
  moves (admitting work path c r) one = admits work path c r (admission w work path c r) refl
  moves (releasing c) one = frees c (release w c) refl (says (releasing c))
  moves (admitting_jobs work jobs answers) one = absurd one

  pub keeps : (q : Call ℕ) → WellFormed (area_after w q)
  keeps (quoting work path r) = formed
  keeps (admitting work path c r) = admitted_formed w work path c r formed
  keeps (releasing c) = released_formed w c formed
  keeps (admitting_jobs work jobs answers) = jobs_formed w work jobs answers formed

-- The areas that the cases stand on, as a program comes to them: by a load, and by M8's admission after it, whatever the
-- area held before. Words that the station is not read from may then differ from those of the definition; a call on such
-- an area replies as on the definition's.
-- Assumes nothing.
use Prim.Native.Nat.{ℕ, ◌/◌, ◌%◌, ◌≤◌}
use mathlib.Core.Path.{◌≡◌, refl, sym, ap, ◌∙◌}
use mathlib.Core.Bool.{true}
use mathlib.Core.List.{List, []}
use native.Mathlib.Omega.{arith}
use lib.ListN.{length}
use Rattle.network.specs.Limits.{link_words, path_words, work_words}
use Rattle.network.specs.declared.Request.{Request}
use Rattle.area.specs.Refusals.{grants}
use Rattle.area.specs.Layout.{area_words, table_words}
use Rattle.area.specs.Station.{Station, circuit_of, station, table_in}
use Rattle.area.specs.Books.{books}
use Rattle.network.specs.Loops.{every}
use Rattle.area.specs.Formed.{WellFormed, well_formed, links_fit, hold_times_fit}
use Rattle.area.specs.Moves.{with_circuit}
use Rattle.area.specs.Load.{fresh, load_answer, area_loaded}
use Rattle.area.proofs.Formed.{formed_test}
use Rattle.area.proofs.LoadCases.{all_pass}
use Rattle.area.proofs.Loads.{accepted_station, accepted_formed}
use Rattle.rules.specs.Replies.{PathReply}
use Rattle.rules.specs.Meaning.{books_in, circuit_for}
use Rattle.rules.specs.Calls.{quote, admission, booked}
use Rattle.rules.proofs.Depends.{quote_depends, admission_depends}
use Rattle.rules.proofs.Bookings.{admitted_station, admitted_formed}
use Rattle.cases.specs.declared.Ground.{Ground}
use Rattle.cases.specs.declared.Ground.TheVariants.{OnA, AfterM8, OnNone, OnB}
use Rattle.cases.specs.declared.Asked.{Asked}
use Rattle.cases.specs.declared.Asked.TheVariants.{Quote, Admission}
use Rattle.cases.specs.Document01.{links_a, links_b, unheld, net_a, m8, m8_circuit, three, by_three, area_in, case_at}
use Rattle.cases.specs.Replied.{replied, left_by}
use Rattle.cases.proofs.Rows.{replied_at}

-- ---- an area that reads as one of those
abbrev pub Like : List ℕ → Ground → Type 0
Like w k = WellFormed w × (station w ≡ station (area_in k))

area_formed : (k : Ground) → well_formed (area_in k) ≡ true
unfolding area_in well_formed table_in circuit_of
area_formed OnA = refl
area_formed AfterM8 = refl
area_formed OnNone = refl
area_formed OnB = refl

module _ (w : List ℕ) (k : Ground) (like : Like w k) where
  formed_like : well_formed w ≡ well_formed (area_in k)
  formed_like = formed_test w like.0 ∙ sym (area_formed k)

  books_like : books_in w ≡ books_in (area_in k)
  books_like = ap books like.1

  -- a call on it replies as on that one
  like_quote : (r : Request) → quote w work_words path_words r ≡ quote (area_in k) work_words path_words r
  like_quote r = quote_depends w (area_in k) work_words path_words r formed_like books_like

  like_admission : (c : ℕ) (r : Request) → admission w work_words path_words c r ≡ admission (area_in k) work_words path_words c r
  like_admission c r = admission_depends w (area_in k) work_words path_words c r formed_like books_like

-- so what a row asks for is replied as the row's own area would have it
pub like_replied : (w : List ℕ) (k : Ground) → Like w k → (q : Asked) → replied w q ≡ replied (area_in k) q
like_replied w k like (Quote r) = like_quote w k like r
like_replied w k like (Admission c r) = like_admission w k like c r

-- ---- by a load
module _ (w : List ℕ) (long : area_words ≤ length w) where
  accepts : (links : List ℕ) → length links % link_words ≡ 0 → length links ≤ table_words → links_fit 4 (length links / link_words) links ≡ true
      → load_answer w (unheld links) ≡ grants tt
  unfolding hold_times_fit every
  accepts links whole few fit = sym (all_pass w (unheld links) long refl whole few fit refl).0

  like_loaded : (k : Ground) (links : List ℕ) → load_answer w (unheld links) ≡ grants tt → station (area_in k) ≡ fresh (unheld links)
      → Like (area_loaded w (unheld links)) k
  like_loaded k links e is = (accepted_formed w (unheld links) e, accepted_station w (unheld links) e ∙ sym is)

  pub loaded_a : Like (area_loaded w (unheld links_a)) OnA
  unfolding links_fit area_in station table_in
  loaded_a = like_loaded OnA links_a (accepts links_a refl (omega arith) refl) refl

  pub loaded_none : Like (area_loaded w (unheld [])) OnNone
  unfolding links_fit area_in station table_in
  loaded_none = like_loaded OnNone [] (accepts [] refl (omega arith) refl) refl

  pub loaded_b : Like (area_loaded w (unheld links_b)) OnB
  unfolding links_fit area_in station table_in
  loaded_b = like_loaded OnB links_b (accepts links_b refl (omega arith) refl) refl

-- ---- by M8's admission
-- its reply on net A is document 01's
m8_replied : admission (area_in OnA) work_words path_words m8_circuit m8 ≡ by_three
unfolding case_at
m8_replied = replied_at 8 (omega arith)

module _ (w : List ℕ) (like : Like w OnA) where
  abbrev after : List ℕ
  after = booked w m8_circuit m8.terms.units (admission w work_words path_words m8_circuit m8)

  same_reply : admission w work_words path_words m8_circuit m8 ≡ by_three
  same_reply = like_admission w OnA like m8_circuit m8 ∙ m8_replied

  -- the station has the circuit more, as net A's has
  after_station : station after ≡ station (area_in AfterM8)
  unfolding area_in
  after_station =
      ap (λ (a : PathReply). station (booked w m8_circuit m8.terms.units a)) same_reply
      ∙ admitted_station w work_words path_words m8_circuit m8 _ same_reply
      ∙ ap (λ (s : Station). with_circuit s (circuit_for m8_circuit m8.terms.units three)) like.1
      ∙ sym (admitted_station net_a work_words path_words m8_circuit m8 _ m8_replied)

  pub m8_admitted : Like (left_by w (Admission m8_circuit m8)) AfterM8
  m8_admitted = (admitted_formed w work_words path_words m8_circuit m8 like.0, after_station)

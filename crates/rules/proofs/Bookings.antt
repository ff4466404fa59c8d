-- What a call does to the area. A granted admission has passed every check, so its path makes a circuit that fits, and
-- the area stays well formed with the circuit more at its place; a release takes out the one circuit with its number.
-- Assumes nothing.
use Prim.Native.Nat.{ℕ, suc, ◌≤◌, ◌<◌}
use mathlib.Core.Path.{◌≡◌, refl, sym, ap, ◌∙◌, subst}
use mathlib.Core.Bool.{true}
use mathlib.Core.List.{List}
use mathlib.Core.Logic.{◌⊎◌, inl, inr}
use native.Mathlib.Omega.{arith}
use lib.ListN.{length, get_or}
use borrow.Author.Tests.{leb-true}
use Rattle.network.specs.Limits.{most_path_links}
use Rattle.network.specs.Lists.{memb}
use Rattle.network.specs.Net.{Net, IsPath}
use Rattle.network.specs.declared.Request.{Request}
use Rattle.network.specs.declared.answer.Reduction.TheVariants.{One, Two}
use Rattle.network.proofs.Tests.{by_bool, by_lt}
use Rattle.network.proofs.Paths.{walk_links}
use Rattle.network.proofs.Short.{path_short}
use Rattle.area.specs.Layout.{most_circuits}
use Rattle.area.specs.Station.{Station, station}
use Rattle.area.specs.Books.{numbers, holds, free, books, net}
use Rattle.area.specs.Held.{place_of}
use Rattle.area.specs.Formed.{CircuitFits, SoundStation, WellFormed}
use Rattle.area.specs.Moves.{with_circuit, without_number, Untouched}
use Rattle.search.specs.Result.{GrantedByOne, GrantedByTwo}
use Rattle.area.specs.Refusals.{refuses, grants}
use Rattle.area.proofs.Found.{rising_differ}
use Rattle.area.proofs.Places.{place_of_most, held_place}
use Rattle.area.proofs.Added.{added_long, added_untouched, added_station, added_clear}
use Rattle.area.proofs.Removed.{removed_long, removed_untouched, removed_station, removed_clear}
use Rattle.area.proofs.ReadCases.{links_few, held_few}
use Rattle.area.proofs.Order.{count_placed}
use Rattle.area.proofs.Keeps.{sound_added, sound_removed, without_one, without_gone}
use Rattle.rules.specs.Requests.{RequestFits}
use Rattle.rules.specs.Replies.{PathGrant, PathReply, ReleaseReply, releases}
use Rattle.rules.specs.Calls.{admission, booked, release, cleared}
use Rattle.rules.specs.Allowed.{Grant, NumberFits}
use Rattle.rules.specs.Meaning.{books_in, circuit_for, net_for, Admitted, Cleared, AreaBooked, AreaCleared}
use Rattle.rules.proofs.Facts.{whole_path, some_link, count_is, held_number}
use Rattle.rules.proofs.Meaning.{area_searchable, formed_past, request_past, number_past, admission_means, release_means}

-- a granted path is a usable path
pub grant_path : {g : Net} {r : Request} {a : PathGrant} → Grant g r a → IsPath g r.source r.target a.path
grant_path {g = g} {r = r} {a = a} h = go h.least
  where
    go : ((a.problem ≡ One) × GrantedByOne g r a.path) ⊎ ((a.problem ≡ Two) × GrantedByTwo g r a.path)
        → IsPath g r.source r.target a.path
    go (inl (e, h)) = h.2.solves.path
    go (inr (e, h)) = h.3.solves.path

-- a path of the network that a request sees has no more links than a path may, since it has fewer than there are nodes
pub seen_short : (w : List ℕ) (r : Request) → WellFormed w → RequestFits (books_in w).table.nodes r
    → (p : List ℕ) → IsPath (net_for w r) r.source r.target p
    → length p ≤ most_path_links
seen_short w r formed fits p path =
    let ok = area_searchable w r formed fits in
    omega (arith, path_short (net_for w r) ok.ends r.source r.target ok.source p path, ok.few)

-- ---- a granted admission
-- what the rules and the search said before the grant
pub record Accepted (w : List ℕ) (c : ℕ) (r : Request) (g : PathGrant) : Type 0 where
  pub formed : WellFormed w
  pub request : RequestFits (books_in w).table.nodes r
  pub number : NumberFits (books_in w) c
  pub few : (books_in w).count < most_circuits
  pub grant : Grant (net_for w r) r g

module _ (w : List ℕ) (work path c : ℕ) (r : Request) (g : PathGrant) (e : admission w work path c r ≡ grants g) where
  abbrev p : List ℕ
  p = g.path

  -- a grant comes past every rule and from the search
  pub admission_granted : Accepted w c r g
  admission_granted =
      let h = subst (Admitted w work path c r) e (admission_means w work path r c) in
      let past = h.0.1.1.1 in
      record {
        formed = formed_past w h.0.0;
        request = request_past _ r past.0;
        number = number_past (books_in w) c past.1.0;
        few = by_lt (books_in w).count most_circuits (λ low. low) (λ high. absurd (past.1.1.0 high));
        grant = h.1;
      }

  is_path : IsPath (net_for w r) r.source r.target p
  is_path = grant_path admission_granted.grant

  short : length p ≤ most_path_links
  short = seen_short w r admission_granted.formed admission_granted.request p is_path

  -- the circuit fits the table
  pub admitted_fits : CircuitFits (station w).table (circuit_for c r.terms.units p)
  unfolding books
  admitted_fits =
      record {
        number_least = admission_granted.number.least;
        number_most = admission_granted.number.most;
        units_least = admission_granted.request.terms.units_least;
        units_most = admission_granted.request.terms.units_most;
        links_least = some_link p is_path;
        links_most = short;
        path = (r.source, r.target, whole_path (books_in w) r r.source r.target p is_path);
      }

  -- the links of the path have the units free
  pub admitted_free : (i : ℕ) → memb i p ≡ true → r.terms.units ≤ free (station w) i
  unfolding net books
  admitted_free i h =
      leb-true r.terms.units (free (station w) i) (walk_links (net_for w r) r.source r.target p is_path.walk i h).1

  -- the station after has the circuit more, and no other change
  pub admitted_station : station (booked w c r.terms.units (grants g)) ≡ with_circuit (station w) (circuit_for c r.terms.units p)
  unfolding booked
  admitted_station =
      added_station w (circuit_for c r.terms.units p) admission_granted.formed.long (links_few w admission_granted.formed)
      (omega (arith, count_is w, admission_granted.few)) short

  -- one more is held; since 12 is refused only where as many as may be held are, so many can be
  pub admitted_count : (books_in (booked w c r.terms.units (grants g))).count ≡ suc (books_in w).count
  unfolding books
  admitted_count =
      ap (λ (s : Station). length s.held) admitted_station ∙ count_placed (circuit_for c r.terms.units p) (station w).held

  room : get_or w 2 0 < most_circuits
  room = omega (arith, count_is w, admission_granted.few)

  granted_formed : WellFormed (booked w c r.terms.units (grants g))
  unfolding booked books
  granted_formed =
      record {
        long = omega (arith, added_long w (place_of w c) (circuit_for c r.terms.units p), admission_granted.formed.long);
        sound =
            subst SoundStation (sym admitted_station)
            (sound_added (station w) (circuit_for c r.terms.units p) admission_granted.formed.sound admission_granted.few admitted_fits
            admission_granted.number.new admitted_free);
        clear =
            added_clear w (place_of w c) (circuit_for c r.terms.units p) admission_granted.formed.long room short
            (place_of_most w c) admission_granted.formed.clear;
      }

  granted_untouched : Untouched w (booked w c r.terms.units (grants g))
  unfolding booked
  granted_untouched = added_untouched w (place_of w c) (circuit_for c r.terms.units p) room (place_of_most w c) short

-- ---- any admission
-- a refusal leaves the words as they are
same_untouched : (w : List ℕ) → Untouched w w
same_untouched w = record { nodes = refl; links = refl; table = λ i from low. refl; past = λ i high. refl; long = refl }

module _ (w : List ℕ) (work path c : ℕ) (r : Request) where
  -- a well-formed area stays well formed
  pub admitted_formed : WellFormed w → WellFormed (booked w c r.terms.units (admission w work path c r))
  unfolding booked
  admitted_formed formed = go (admission w work path c r) refl
    where
      go : (a : PathReply) → admission w work path c r ≡ a → WellFormed (booked w c r.terms.units a)
      go (refuses n) e = formed
      go (grants g) e = granted_formed w work path c r g e

  -- n, m, the links and the words past the circuits stay
  pub admitted_untouched : Untouched w (booked w c r.terms.units (admission w work path c r))
  unfolding booked
  admitted_untouched = go (admission w work path c r) refl
    where
      go : (a : PathReply) → admission w work path c r ≡ a → Untouched w (booked w c r.terms.units a)
      go (refuses n) e = same_untouched w
      go (grants g) e = granted_untouched w work path c r g e

  -- the area after it is what the rules leave
  pub admitted_area : AreaBooked w c r.terms.units (admission w work path c r) (booked w c r.terms.units (admission w work path c r))
  unfolding booked
  admitted_area = go (admission w work path c r) refl
    where
      go : (a : PathReply) → admission w work path c r ≡ a → AreaBooked w c r.terms.units a (booked w c r.terms.units a)
      go (refuses n) e = refl
      go (grants g) e =
          record {
            holds = ap (λ (s : Station). s.held) (admitted_station w work path c r g e);
            formed = granted_formed w work path c r g e;
            untouched = granted_untouched w work path c r g e;
          }

-- ---- a granted release
module _ (w : List ℕ) (c : ℕ) (e : release w c ≡ releases) where
  -- a release comes past both rules
  passed : WellFormed w × (holds (station w).held c ≡ true)
  unfolding books
  passed =
      let h = subst (Cleared w c) e (release_means w c) in
      (formed_past w h.0.0, by_bool (holds (station w).held c) (λ q. q) (λ q. absurd (h.0.1.0 q)))

  -- the station after is without the number, and has no other change
  pub released_station : station (cleared w c releases) ≡ without_number (station w) c
  unfolding cleared
  released_station =
      removed_station w c passed.0.long (links_few w passed.0) (held_few w passed.0) passed.0.sound.rising passed.1

  -- the number's place is that of a held circuit
  there : place_of w c < get_or w 2 0
  unfolding station
  there = (held_place w c passed.0.sound.rising passed.1).0

  unheld_formed : WellFormed (cleared w c releases)
  unfolding cleared
  unheld_formed =
      record {
        long = omega (arith, removed_long w (place_of w c), passed.0.long);
        sound = subst SoundStation (sym released_station) (sound_removed (station w) c passed.0.sound);
        clear = removed_clear w (place_of w c) (omega (arith, held_few w passed.0, passed.0.long)) there passed.0.clear;
      }

  unheld_untouched : Untouched w (cleared w c releases)
  unfolding cleared
  unheld_untouched = removed_untouched w (place_of w c) (held_few w passed.0) there

  -- the number may be used again, and there is a place for a circuit
  pub released_again : NumberFits (books_in (cleared w c releases)) c × ((books_in (cleared w c releases)).count < most_circuits)
  unfolding books
  released_again = subst (λ (s : Station). NumberFits (books s) c × ((books s).count < most_circuits)) (sym released_station) again
    where
      again : NumberFits (books (without_number (station w) c)) c × ((books (without_number (station w) c)).count < most_circuits)
      again =
          let range = held_number (station w).table (station w).held c passed.0.sound.each passed.1 in (
            record { least = range.0; most = range.1; new = without_gone c (station w).held },
            omega (arith, without_one c (station w).held (rising_differ (numbers (station w).held) passed.0.sound.rising) passed.1, passed.0.sound.few),
          )

-- ---- any release
module _ (w : List ℕ) (c : ℕ) where
  -- a well-formed area stays well formed
  pub released_formed : WellFormed w → WellFormed (cleared w c (release w c))
  unfolding cleared
  released_formed formed = go (release w c) refl
    where
      go : (a : ReleaseReply) → release w c ≡ a → WellFormed (cleared w c a)
      go (refuses n) e = formed
      go (grants _) e = unheld_formed w c e

  -- n, m, the links and the words past the circuits stay
  pub released_untouched : Untouched w (cleared w c (release w c))
  unfolding cleared
  released_untouched = go (release w c) refl
    where
      go : (a : ReleaseReply) → release w c ≡ a → Untouched w (cleared w c a)
      go (refuses n) e = same_untouched w
      go (grants _) e = unheld_untouched w c e

  -- the area after it is what the rules leave
  pub released_area : AreaCleared w c (release w c) (cleared w c (release w c))
  unfolding cleared
  released_area = go (release w c) refl
    where
      go : (a : ReleaseReply) → release w c ≡ a → AreaCleared w c a (cleared w c a)
      go (refuses n) e = refl
      go (grants _) e =
          record {
            holds = ap (λ (s : Station). s.held) (released_station w c e);
            formed = unheld_formed w c e;
            untouched = unheld_untouched w c e;
          }

-- Quote, admission and release from the words of an area: what each answers, by the first number that applies in
-- document 01's order, and what it leaves in the area. The contracts of the calls cite these definitions.
-- Assumes nothing.
use Rattle.std.specs.Prelude.{ℕ, Bool, not, ◌&&◌, List, [], ◌∷◌, ◌++◌, ltb, leb}
use Rattle.network.specs.Limits.{path_words, work_words}
use Rattle.network.specs.declared.Request.{Request}
use Rattle.network.specs.Ranges.{in_range}
use Rattle.search.specs.Result.{outcome}
use Rattle.area.specs.Layout.{least_number, most_circuits, most_number}
use Rattle.area.specs.Station.{station}
use Rattle.area.specs.Books.{Books, books, net}
use Rattle.area.specs.Held.{place_of}
use Rattle.area.specs.Formed.{well_formed}
use Rattle.area.specs.Refusals.{Reply, refuses, grants}
use Rattle.area.specs.Checks.{Check, ◌unless◌, checked}
use Rattle.area.specs.Moves.{added, removed}
use Rattle.rules.specs.Requests.{request_fits}
use Rattle.rules.specs.Replies.{PathReply, reply_of, ReleaseReply, releases}
use Rattle.rules.specs.Meaning.{books_in, circuit_for}

-- what the route search replies to a request, by the books alone
unfoldable pub searched : Books → Request → PathReply
unfolding net reply_of
searched o r = reply_of (net o r) (outcome (net o r) r)

-- a circuit number that an admission takes: in its range and not held
unfoldable pub number_fits : Books → ℕ → Bool
number_fits o c = in_range least_number most_number c && not (o.holds c)

-- the checks that ask for the books alone: those of a request, with the lengths of work memory and path buffer
abbrev pub request_checks : Books → ℕ → ℕ → Request → List Check
request_checks o work path r =
    (6 unless leb work_words work) ∷ (7 unless leb path_words path) ∷ (8 unless request_fits o.table.nodes r) ∷ []

-- and those of a circuit number
abbrev pub number_checks : Books → ℕ → List Check
number_checks o c = (11 unless number_fits o c) ∷ (12 unless ltb o.count most_circuits) ∷ []

-- what those checks alone say on an area w: a refusal with its number, or that they pass
abbrev pub request_checked : List ℕ → ℕ → ℕ → Request → Reply (Unit {0})
request_checked w work path r = checked refuses (request_checks (books_in w) work path r) (grants tt)

-- those of a circuit number give its place
abbrev pub number_checked : List ℕ → ℕ → Reply ℕ
number_checked w c = checked refuses (number_checks (books_in w) c) (grants (place_of w c))

-- the checks of a quote on an area w
abbrev pub quote_checks : List ℕ → ℕ → ℕ → Request → List Check
quote_checks w work path r = (5 unless well_formed w) ∷ request_checks (books_in w) work path r

-- those of an admission with circuit number c
abbrev pub admit_checks : List ℕ → ℕ → ℕ → ℕ → Request → List Check
admit_checks w work path c r = quote_checks w work path r ++ number_checks (books_in w) c

-- those of a release of circuit number c
abbrev pub release_checks : List ℕ → ℕ → List Check
release_checks w c = (5 unless well_formed w) ∷ (13 unless ((books_in w).holds c)) ∷ []

unfoldable pub quote : List ℕ → ℕ → ℕ → Request → PathReply
unfolding well_formed station books request_fits searched
quote w work path r = checked refuses (quote_checks w work path r) (searched (books_in w) r)

unfoldable pub admission : List ℕ → ℕ → ℕ → ℕ → Request → PathReply
unfolding well_formed station books request_fits number_fits searched
admission w work path c r = checked refuses (admit_checks w work path c r) (searched (books_in w) r)

-- the area after an admission's reply: a granted one adds the circuit at its place
unfoldable pub booked : List ℕ → ℕ → ℕ → PathReply → List ℕ
unfolding added place_of
booked w c u (refuses k) = w
booked w c u (grants g) = added w (place_of w c) (circuit_for c u g.path)

unfoldable pub release : List ℕ → ℕ → ReleaseReply
unfolding well_formed station books
release w c = checked refuses (release_checks w c) releases

-- the area after a release's reply: a granted one takes out the circuit with this number
unfoldable pub cleared : List ℕ → ℕ → ReleaseReply → List ℕ
unfolding removed place_of
cleared w c (refuses k) = w
cleared w c (grants _) = removed w (place_of w c)

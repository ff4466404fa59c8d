-- Quote, admission and release on net A: a call for each refusal, and granted ones. Refusal 12 stands in Full.antt.
-- Assumes nothing.
use mathlib.Core.Path.{◌≡◌, refl}
use Rattle.network.specs.Loops.{iter, first}
use Rattle.network.specs.Scale.{scaled}
use Rattle.network.specs.Cut.{noted, follow}
use Rattle.network.specs.Reduce.{problem_one, problem_two, asking}
use Rattle.search.specs.ebf.Table.{cell, cells, filled, initialised, improved, relaxed, offered, column, round, rounds, ebf}
use Rattle.search.specs.ebf.Trace.{place_back, step_back, traced}
use Rattle.search.specs.ebf.Solve.{path_in, answer_in, solve_in, solve}
use Rattle.search.specs.Distance.{spread, layer, distance}
use Rattle.search.specs.Heuristic.{tried, search}
use Rattle.search.specs.Result.{outcome}
use Rattle.network.specs.declared.answer.Reduction.TheVariants.{One, Two}
use Rattle.area.specs.Station.{station, table_in, circuit_of}
use Rattle.area.specs.Books.{books}
use Rattle.area.specs.Held.{place_of}
use Rattle.area.specs.Refusals.{refuses, grants}
use Rattle.rules.specs.Replies.{granting, releases}
use Rattle.rules.specs.Requests.{request_fits}
use Rattle.rules.specs.Calls.{number_fits, request_checked, number_checked, quote, admission, booked, release, cleared}
use Rattle.cases.specs.Document01.{asks, m3, three}
use Rattle.instances.specs.Nets.{m1, m4}
use Rattle.instances.specs.Areas.{fresh_a, held_a, two_a}

-- an area that is not well formed, too little work memory, too short a path buffer, the same source and target, more
-- units than any link has, and M1; M3 and M4 are granted
pub record Quotes : Type 0 where
  pub five : quote (two_a 8 11) 16384 31 m3 ≡ refuses 5
  pub six : quote fresh_a 16383 31 m3 ≡ refuses 6
  pub seven : quote fresh_a 16384 30 m3 ≡ refuses 7
  pub eight : quote fresh_a 16384 31 (asking 0 0 1 8 20 8) ≡ refuses 8
  pub nine : quote fresh_a 16384 31 (asks 11 8 20 8) ≡ refuses 9
  pub ten : quote fresh_a 16384 31 m1 ≡ refuses 10
  pub by_one : quote fresh_a 16384 31 m3 ≡ granting One 6 15 three
  pub by_two : quote fresh_a 16384 31 m4 ≡ granting Two 6 15 three

-- the same of an admission; circuit 7 is held, 0 and 65,536 are no circuit numbers; and a granted one adds its circuit
pub record Admissions : Type 0 where
  pub five : admission (two_a 8 11) 16384 31 9 m3 ≡ refuses 5
  pub six : admission fresh_a 16383 31 7 m3 ≡ refuses 6
  pub seven : admission fresh_a 16384 30 7 m3 ≡ refuses 7
  pub eight : admission fresh_a 16384 31 7 (asking 0 4 1 8 20 8) ≡ refuses 8
  pub eleven : admission held_a 16384 31 7 m3 ≡ refuses 11
  pub none_eleven : admission fresh_a 16384 31 0 m3 ≡ refuses 11
  pub high_eleven : admission fresh_a 16384 31 65536 m3 ≡ refuses 11
  pub nine : admission held_a 16384 31 8 (asks 11 8 20 8) ≡ refuses 9
  pub ten : admission held_a 16384 31 8 (asks 7 8 20 8) ≡ refuses 10
  pub granted : admission fresh_a 16384 31 7 (asks 4 8 20 8) ≡ granting One 6 15 three
  pub booked_as : booked fresh_a 7 4 (granting One 6 15 three) ≡ held_a

-- what the checks of a request and of a circuit number say alone: of a number its place as well
pub record Checks : Type 0 where
  pub six : request_checked fresh_a 16383 31 m3 ≡ refuses 6
  pub seven : request_checked fresh_a 16384 30 m3 ≡ refuses 7
  pub eight : request_checked fresh_a 16384 31 (asking 0 0 1 8 20 8) ≡ refuses 8
  pub request : request_checked fresh_a 16384 31 m3 ≡ grants tt
  pub none_eleven : number_checked held_a 0 ≡ refuses 11
  pub held_eleven : number_checked held_a 7 ≡ refuses 11
  pub number : number_checked held_a 8 ≡ grants 1
  pub lower_number : number_checked held_a 2 ≡ grants 0

-- a release of a circuit that is not held, and of one that is: the numbers of the circuits that remain
pub record Releases : Type 0 where
  pub five : release (two_a 8 11) 7 ≡ refuses 5
  pub thirteen : release held_a 8 ≡ refuses 13
  pub granted : release held_a 7 ≡ releases
  pub unheld : release (cleared held_a 7 releases) 7 ≡ refuses 13
  pub others : release (cleared (two_a 8 10) 7 releases) 8 ≡ releases

pub quotes : Quotes
unfolding quote fresh_a two_a table_in circuit_of outcome search tried solve solve_in answer_in path_in ebf rounds round column offered relaxed improved initialised filled cell cells traced step_back place_back noted follow distance layer spread problem_one problem_two scaled iter first
quotes =
    record { five = refl; six = refl; seven = refl; eight = refl; nine = refl; ten = refl; by_one = refl; by_two = refl }

pub admissions : Admissions
unfolding admission booked fresh_a held_a two_a table_in circuit_of outcome search tried solve solve_in answer_in path_in ebf rounds round column offered relaxed improved initialised filled cell cells traced step_back place_back noted follow distance layer spread problem_one problem_two scaled iter first
admissions =
    record {
      five = refl;
      six = refl;
      seven = refl;
      eight = refl;
      eleven = refl;
      none_eleven = refl;
      high_eleven = refl;
      nine = refl;
      ten = refl;
      granted = refl;
      booked_as = refl;
    }

pub checks : Checks
unfolding request_fits number_fits books station place_of fresh_a held_a table_in circuit_of
checks =
    record { six = refl; seven = refl; eight = refl; request = refl; none_eleven = refl; held_eleven = refl; number = refl; lower_number = refl }

pub releasing : Releases
unfolding release cleared held_a two_a table_in circuit_of first
releasing = record { five = refl; thirteen = refl; granted = refl; unheld = refl; others = refl }

-- The cases of bounds of 0 hold: the replies of all of them are computed at once, as those of document 01's cases are.
-- Assumes nothing.
use mathlib.Core.Path.{◌≡◌, refl}
use mathlib.Core.List.{map}
use native.Mathlib.Omega.{arith}
use Rattle.network.specs.Lists.{All}
use Rattle.network.specs.Loops.{iter, first}
use Rattle.network.specs.Scale.{scaled, Overqualified}
use Rattle.network.specs.Cut.{noted, follow}
use Rattle.network.specs.Reduce.{problem_one, problem_two}
use Rattle.search.specs.ebf.Table.{cell, cells, filled, initialised, improved, relaxed, offered, column, round, rounds, ebf}
use Rattle.search.specs.ebf.Trace.{step_back, place_back, traced}
use Rattle.search.specs.ebf.Solve.{path_in, answer_in, solve_in, solve}
use Rattle.search.specs.Distance.{spread, layer, distance}
use Rattle.search.specs.Heuristic.{tried, search}
use Rattle.search.specs.Result.{outcome}
use Rattle.area.specs.Station.{table_in, circuit_of, station}
use Rattle.area.specs.Books.{books, net}
use Rattle.area.specs.Load.{load_answer}
use Rattle.rules.specs.Calls.{quote, admission}
use Rattle.rules.specs.Meaning.{net_for}
use Rattle.cases.specs.Document01.{net_a}
use Rattle.cases.specs.FreeLines.{net_f, net_f7, FreeNetLoaded, f4, FreeCase, free_cases, FreeCaseHolds, FreeFigures}
use Rattle.cases.specs.Replied.{replied}
use Rattle.cases.proofs.Worked.{each_case, one_link_lem}

pub free_replies : map (λ (c : FreeCase). replied c.stands c.asked) free_cases ≡ map (λ (c : FreeCase). c.reply) free_cases
unfolding free_cases net_a net_f net_f7 quote admission table_in circuit_of outcome search tried solve solve_in answer_in path_in ebf rounds round column offered relaxed improved initialised filled cell cells traced step_back place_back noted follow distance layer spread problem_one problem_two scaled iter first
free_replies = refl

pub all_free_cases : All FreeCaseHolds free_cases
all_free_cases =
    each_case (λ (c : FreeCase). c.stands) (λ (c : FreeCase). c.asked) (λ (c : FreeCase). c.reply) free_cases free_replies

-- the net is freshly loaded
pub free_net_loaded : FreeNetLoaded
unfolding load_answer
free_net_loaded = refl

pub free_figures : FreeFigures
unfolding net_f net books station table_in Overqualified scaled
free_figures =
    record {
      f4_distance = one_link_lem (net_for net_f f4) 0 3 3 refl;
      f4_free = omega arith;
      f4_paid = λ h. omega (arith, h);
      f4_scaled = refl;
      f8_scaled = refl;
      f9_scaled = refl;
    }

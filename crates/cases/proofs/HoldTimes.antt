-- The cases of hold times hold: the replies of all of them are computed at once.
-- Assumes nothing.
use mathlib.Core.Path.{◌≡◌, refl}
use mathlib.Core.List.{map}
use native.Mathlib.Omega.{arith}
use Rattle.network.specs.Lists.{All}
use Rattle.network.specs.Loops.{iter, first}
use Rattle.network.specs.Scale.{scaled, Overqualified}
use Rattle.network.specs.Cut.{noted, follow}
use Rattle.network.specs.Reduce.{problem_one, problem_two}
use Rattle.search.specs.ebf.Table.{cell, cells, filled, initialised, improved, relaxed, offered, column, round, rounds, ebf}
use Rattle.search.specs.ebf.Trace.{step_back, place_back, traced}
use Rattle.search.specs.ebf.Solve.{path_in, answer_in, solve_in, solve}
use Rattle.search.specs.Distance.{spread, layer, distance}
use Rattle.search.specs.Heuristic.{tried, search}
use Rattle.search.specs.Result.{outcome}
use Rattle.area.specs.Station.{table_in, circuit_of, station}
use Rattle.area.specs.Books.{books, delay_to, net}
use Rattle.area.specs.Load.{load_answer}
use Rattle.rules.specs.Calls.{quote, admission}
use Rattle.cases.specs.HoldTimes.{net_h, net_h9, HoldNetsLoaded, HoldCase, hold_cases, HoldCaseHolds, HoldFigures}
use Rattle.cases.specs.Replied.{replied}
use Rattle.cases.proofs.Worked.{each_case}

pub hold_replies : map (λ (c : HoldCase). replied c.stands c.asked) hold_cases ≡ map (λ (c : HoldCase). c.reply) hold_cases
unfolding hold_cases net_h net_h9 quote admission table_in circuit_of outcome search tried solve solve_in answer_in path_in ebf rounds round column offered relaxed improved initialised filled cell cells traced step_back place_back noted follow distance layer spread problem_one problem_two scaled iter first
hold_replies = refl

pub all_hold_cases : All HoldCaseHolds hold_cases
all_hold_cases =
    each_case (λ (c : HoldCase). c.stands) (λ (c : HoldCase). c.asked) (λ (c : HoldCase). c.reply) hold_cases hold_replies

-- the net is freshly loaded with each of the three
pub hold_nets_loaded : HoldNetsLoaded
unfolding load_answer
hold_nets_loaded = (refl, (refl, (refl, tt)))

pub hold_figures : HoldFigures
unfolding net_h delay_to net books station table_in Overqualified scaled
hold_figures =
    record {
      unheld_1 = refl;
      unheld_2 = refl;
      held_1 = refl;
      held_2 = refl;
      h3_scaled = refl;
      h3_apart = refl;
      h7_missed = λ h. omega (arith, h);
      h7_met = omega arith;
    }

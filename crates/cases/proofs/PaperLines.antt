-- The cases of the paper's table hold: the entries, words and replies of all of them are computed at once.
-- Assumes nothing.
use Prim.Native.Nat.{ℕ}
use mathlib.Core.Path.{◌≡◌, refl, ap, subst}
use mathlib.Core.Bool.{Bool, true}
use mathlib.Core.List.{List, [], ◌∷◌, map, head-eq_of_cons-eq, tail-eq_of_cons-eq}
use Rattle.network.specs.Lists.{All}
use Rattle.network.specs.Loops.{iter, first}
use Rattle.network.specs.Net.{is_pathb}
use Rattle.network.specs.Scale.{scaled}
use Rattle.network.specs.Cut.{noted, follow}
use Rattle.network.specs.Reduce.{problem_one, problem_two}
use Rattle.search.specs.Paper.{∞, NIL, Variables, line_1, line_4, line_7, line_8, line_21, line_22, line_23, line_24}
use Rattle.search.specs.Paper as paper
use Rattle.search.specs.ebf.Table.{cell, cells, filled, initialised, improved, relaxed, offered, column, round, rounds, ebf}
use Rattle.search.specs.ebf.Trace.{step_back, place_back, traced}
use Rattle.search.specs.ebf.Solve.{path_in, answer_in, solve_in, solve}
use Rattle.search.specs.Distance.{spread, layer, distance}
use Rattle.search.specs.Heuristic.{tried, search}
use Rattle.search.specs.Result.{outcome}
use Rattle.area.specs.Station.{table_in, circuit_of, station}
use Rattle.area.specs.Books.{books, delay_to, net}
use Rattle.area.specs.Load.{load_answer}
use Rattle.rules.specs.Replies.{PathReply}
use Rattle.rules.specs.Calls.{quote}
use Rattle.cases.specs.declared.Asked.TheVariants.{Quote}
use Rattle.cases.specs.Document01.{Holds}
use Rattle.cases.specs.PaperLines.{net_p, PaperNetLoaded, Cell, TableCase, table_cases, rows, nines, its_net, its_problem, TableHolds}
use Rattle.cases.specs.Replied.{replied}
use Rattle.cases.proofs.Worked.{replied_holds, one_link_lem}

-- ---- what is computed, where the variables hold anything before
record Seen : Type 0 where
  straight : Bool
  entries : List (List Cell)
  words : List ℕ
  reply : PathReply

abbrev seen : Variables → TableCase → Seen
seen before c =
    record {
      straight = is_pathb (its_net c) c.request.source c.request.target (5 ∷ []);
      entries = rows (paper.ebf (its_net c) (its_problem c) c.request.source before);
      words = ebf (its_net c) (its_problem c) c.request.source nines;
      reply = replied net_p (Quote c.request);
    }

-- and what the case says of it
abbrev told : TableCase → Seen
told c = record { straight = true; entries = c.entries; words = c.words; reply = c.reply }

computed : (before : Variables) → map (seen before) table_cases ≡ map told table_cases
unfolding table_cases net_p quote net books station delay_to table_in circuit_of outcome search tried solve solve_in answer_in path_in ebf rounds round column offered relaxed improved initialised filled cell cells traced step_back place_back noted follow distance layer spread problem_one problem_two scaled paper.ebf line_1 line_4 line_7 line_8 line_21 line_22 line_23 line_24 iter first
computed before = refl

-- ---- what it means
-- variables that hold nothing
abbrev empty : Variables
empty = record { d = λ v k. ∞; π = λ v k. NIL }

holds : (c : TableCase) → ((before : Variables) → seen before c ≡ told c) → TableHolds c
holds c e =
    record {
      distance = one_link_lem (its_net c) c.request.source c.request.target 5 (ap (λ (s : Seen). s.straight) (e empty));
      entries = λ before. ap (λ (s : Seen). s.entries) (e before);
      words = ap (λ (s : Seen). s.words) (e empty);
      meant =
          subst (Holds net_p (Quote c.request)) (ap (λ (s : Seen). s.reply) (e empty)) (replied_holds net_p (Quote c.request));
      replies = ap (λ (s : Seen). s.reply) (e empty);
    }

each : (l : List TableCase) → ((before : Variables) → map (seen before) l ≡ map told l) → All TableHolds l
each [] e = tt
each (c ∷ l) e = (holds c (λ before. head-eq_of_cons-eq (e before)), each l (λ before. tail-eq_of_cons-eq (e before)))

pub all_table_cases : All TableHolds table_cases
all_table_cases = each table_cases computed

-- the net is freshly loaded
pub paper_net_loaded : PaperNetLoaded
unfolding load_answer
paper_net_loaded = refl

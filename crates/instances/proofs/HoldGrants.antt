-- What hold times do to quotes on net H: the delay of a grant is its path's, and no grant has another; a reply is the one by the
-- links' own delays where no node holds anything, and not where one does; and a list of one granted quote, by the demands.
-- Assumes nothing.
use Prim.Native.Nat.{ℕ, ◌+◌}
use mathlib.Core.Path.{◌≡◌, refl, sym, ap, ◌∙◌, subst}
use mathlib.Core.List.{List, [], ◌∷◌}
use native.Mathlib.Omega.{arith}
use lib.ListN.{length}
use Rattle.network.specs.Loops.{iter, first}
use Rattle.network.specs.Scale.{scaled}
use Rattle.network.specs.NodeSet.{member, inserted}
use Rattle.network.specs.Cut.{noted, follow}
use Rattle.network.specs.Net.{sum}
use Rattle.network.specs.Reduce.{problem_one, problem_two, WithinBounds}
use Rattle.network.specs.declared.Request.{Request}
use Rattle.network.specs.declared.answer.Reduction.TheVariants.{One}
use Rattle.search.specs.ebf.Table.{cell, cells, filled, initialised, improved, relaxed, offered, column, round, rounds, ebf}
use Rattle.search.specs.ebf.Trace.{place_back, step_back, traced}
use Rattle.search.specs.ebf.Solve.{path_in, answer_in, solve_in, solve}
use Rattle.search.specs.Distance.{spread, layer, distance}
use Rattle.search.specs.Heuristic.{tried, search}
use Rattle.search.specs.Result.{outcome}
use Rattle.area.specs.Station.{delay_of, hold_of, table_in, circuit_of, station}
use Rattle.area.specs.Books.{books, inner_nodes, path_delay, delay_to, net, net_unheld}
use Rattle.area.specs.Load.{LoadInput, table_of, load_answer, area_loaded}
use Rattle.area.specs.Refusals.{refuses, grants}
use Rattle.rules.specs.Replies.{PathGrant, granting, reply_of}
use Rattle.rules.specs.Allowed.{Grant}
use Rattle.rules.specs.Calls.{searched, quote, admission}
use Rattle.rules.specs.Meaning.{books_in, net_for, Quoted}
use Rattle.rules.proofs.Delays.{NoneHeld, granted_delay, unheld_reply, searched_unheld}
use Rattle.rules.proofs.Meaning.{quote_means}
use Rattle.ledger.specs.Entries.{quoting, admitting, releasing}
use Rattle.ledger.specs.History.{Lending}
use Rattle.ledger.specs.Sentences.{AtRequest}
use Rattle.ledger.specs.Demand.{Throughout}
use Rattle.ledger.proofs.Demands.{path_delays}
use Rattle.cases.specs.Document01.{blank, none_held, asks}
use Rattle.cases.specs.HoldTimes.{inner_held, by_node_1, by_node_2, net_h}
use Rattle.instances.specs.HoldTimes.{input_h, table_h, books_h, to_3, short_h}
use Rattle.instances.specs.Calls.{work, path}

-- ---- a granted quote
abbrev pub area_h : List ℕ
area_h = net_h inner_held

abbrev pub by_2 : ℕ → PathGrant
by_2 delay = record { problem = One; delay = delay; cost = 9; path = by_node_2 }

pub quoted : quote area_h 16384 31 to_3 ≡ grants (by_2 6)
unfolding net_h quote table_in circuit_of outcome search tried solve solve_in answer_in path_in ebf rounds round column offered relaxed improved initialised filled cell cells traced step_back place_back noted follow distance layer spread problem_one problem_two scaled iter first
quoted = refl

pub is_granted : Grant (net_for area_h to_3) to_3 (by_2 6)
is_granted = (subst (Quoted area_h 16384 31 to_3) quoted (quote_means area_h 16384 31 to_3)).1

-- the delay of any grant by this path is 3 + 2 and the hold time of node 2
pub its_delay : (a : PathGrant) → Grant (net_for area_h to_3) to_3 a → a.path ≡ by_node_2 → a.delay ≡ 6
unfolding net_h books station table_in
its_delay a h e = granted_delay (books_in area_h) to_3 a h ∙ ap (path_delay (books_in area_h).table) e

-- so it is not the links' delays alone
pub links_alone : Grant (net_for area_h to_3) to_3 (by_2 5) → ⊥
links_alone h = omega (arith, its_delay (by_2 5) h refl)

-- and the bound of delay is held against it: 6 is kept, and 5 is not
abbrev pub within : ℕ → Request
within d = asks 1 d 20 8

pub six_kept : WithinBounds (net (books_h inner_held) (within 6)) (within 6) by_node_2
unfolding books net delay_to
six_kept = record { delay = omega arith; cost = omega arith }

pub five_not_kept : WithinBounds (net (books_h inner_held) (within 5)) (within 5) by_node_2 → ⊥
unfolding books net delay_to
five_not_kept h = let over = h.delay in omega (arith, over)

-- ---- the reply by the links' own delays
-- is the reply where no node holds anything
pub none_lem : NoneHeld none_held
none_lem = (refl, (refl, (refl, (refl, tt))))

pub same_unheld : searched (books_h none_held) short_h ≡ unheld_reply (books_h none_held) short_h
unfolding books
same_unheld = searched_unheld (books_h none_held) short_h none_lem

pub some_held : NoneHeld inner_held → ⊥
some_held h = omega (arith, h.1.0)

-- and not where nodes 1 and 2 do: the path by node 1 is then over the bound
pub by_links : unheld_reply (books_h inner_held) short_h ≡ granting One 4 10 by_node_1
unfolding books reply_of net_unheld outcome search tried solve solve_in answer_in path_in ebf rounds round column offered relaxed improved initialised filled cell cells traced step_back place_back noted follow distance layer spread member inserted problem_one problem_two scaled iter first
by_links = refl

pub by_holds : searched (books_h inner_held) short_h ≡ refuses 10
unfolding searched books reply_of net delay_to outcome search tried solve solve_in answer_in path_in ebf rounds round column offered relaxed improved initialised filled cell cells traced step_back place_back noted follow distance layer spread member inserted problem_one problem_two scaled iter first
by_holds = refl

pub held_differs : searched (books_h inner_held) short_h ≡ unheld_reply (books_h inner_held) short_h → ⊥
held_differs e = let same = sym by_holds ∙ e ∙ by_links in cc

-- ---- the demands, of a list of one quote
pub accepted : load_answer blank (input_h inner_held) ≡ grants tt
unfolding load_answer
accepted = refl

abbrev pub one_quote : List Lending
one_quote = quoting (work 0) (path 0) to_3 ∷ []

-- what it grants has its path's delay
pub quote_delay : (b : PathGrant) → quote (area_loaded blank (input_h inner_held)) 16384 31 to_3 ≡ grants b
    → b.delay ≡ path_delay (table_h inner_held) b.path
unfolding books
quote_delay = (path_delays (input_h inner_held) blank accepted one_quote).0

-- and it grants a path by node 2, so the delay is 6
pub quote_grants : quote (area_loaded blank (input_h inner_held)) 16384 31 to_3 ≡ grants (by_2 6)
unfolding area_loaded net_h
quote_grants = quoted

pub delay_six : ◌≡◌ {A = ℕ} 6 (path_delay (table_h inner_held) by_node_2)
delay_six = quote_delay (by_2 6) quote_grants

-- ---- what the law says of any quote, admission of circuit c and release of circuit d, spelled out and taken from it alone
module _ (w : List ℕ) (input : LoadInput) (work path work' path' : List ℕ) (r r' : Request) (c d : ℕ) where
  abbrev start : List ℕ
  start = area_loaded w input

  -- the links' delays and what the nodes between them hold
  abbrev Summed : PathGrant → Type 0
  Summed b =
      b.delay ≡ sum (delay_of (table_of input)) b.path + sum (hold_of (table_of input)) (inner_nodes (table_of input) b.path)

  abbrev list : List Lending
  list = quoting work path r ∷ admitting work' path' c r' ∷ releasing d ∷ []

  module _ (law : Throughout w input list (AtRequest (λ o r a. (b : PathGrant) → a ≡ grants b → b.delay ≡ path_delay o.table b.path))) where
    pub quoted_delay : (b : PathGrant) → quote start (length work) (length path) r ≡ grants b → Summed b
    unfolding books
    quoted_delay = law.0

    pub admitted_delay : (b : PathGrant) → admission start (length work') (length path') c r' ≡ grants b → Summed b
    unfolding books
    admitted_delay = law.1.0

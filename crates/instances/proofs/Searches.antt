-- What a search relies on can be met, and is not always met; what its stated result says of net A; the distance and the
-- answer as the code has them; networks that a search cannot tell apart, and some that it can; a table with every link of
-- a column settled, and one without.
-- Assumes nothing.
use Prim.Native.Nat.{ℕ, ◌+◌, ◌≤◌, ◌<◌}
use mathlib.Core.Path.{◌≡◌, refl, sym, ap}
use mathlib.Core.Bool.{true, true≢false}
use mathlib.Core.List.{List, [], ◌∷◌}
use native.Mathlib.Omega.{arith}
use borrow.Author.Tests.{leb-true}
use lib.Dec.{leb}
use lib.ListN.{replicate, length-replicate}
use Rattle.std.specs.Prelude.{Some, None, Ok, Err}
use Rattle.network.specs.Loops.{iter, every, first}
use Rattle.network.proofs.Loops.{every_at}
use Rattle.network.specs.Net.{Net, Ends}
use Rattle.network.specs.Words.{net_of}
use Rattle.network.specs.NodeSet.{member, inserted}
use Rattle.network.specs.Scale.{scaled}
use Rattle.network.specs.Problem.{Problem}
use Rattle.network.specs.Reduce.{Outcome, no_path, no_solution, granted, problem_one, one, asking}
use Rattle.network.proofs.Bounds.{one_distance}
use Rattle.search.specs.ebf.Table.{cell, cells, number, filled, initialised, improved, relaxed, offered, column, round, rounds, ebf}
use Rattle.search.specs.ebf.Settled.{SettledColumn}
use Rattle.search.specs.Distance.{spread, layer, distance, distance_if_any}
use Rattle.search.specs.Result.{Ready, Searchable, Unsolved, GrantedByOne, GrantedByTwo, Result, Alike, search_answer_of}
use Rattle.network.specs.declared.Grant.{Grant}
use Rattle.network.specs.declared.answer.NoRoute.TheVariants as why
use Rattle.search.proofs.Result.{ready_searchable}
use Rattle.cases.specs.Document01.{links_a, m3, three}
use Rattle.instances.specs.Nets.{column_of, net_of_words, net_a, shut_a, straight, m1, m4}
use Rattle.instances.proofs.LinkTables.{four, link_table_lem}
use Rattle.instances.proofs.Ranges.{m3_terms}
use Rattle.instances.proofs.Paths.{three_path, distance_one, shut_no_path}
use Rattle.instances.proofs.Problems.{m3_solves, m3_enough, m1_none_one, m1_none_two, m4_none_one, straight_over}
use Rattle.network.specs.declared.answer.Reduction.{Reduction}
use Rattle.network.specs.declared.answer.Reduction.TheVariants.{One, Two}

-- ---- the ranges and lengths
-- the ends of net A's links are nodes of four (`ends` of Problems.antt), and not of three
pub ends_high : Ends (net_of_words 3 4 links_a (replicate 4 true)) → ⊥
unfolding net_of
ends_high h = let high = h.heads 2 (omega arith) in omega (arith, high)

-- M3 on net A, with work memory and path buffer of the lengths asked for
pub ready : Ready 4 (replicate 16384 0) (replicate 31 0) m3
ready =
    record {
      memory = omega (arith, length-replicate {A = ℕ} 16384 0);
      buffer = omega arith;
      source = omega arith;
      target = omega arith;
      apart = λ e. omega (arith, e);
      terms = m3_terms;
    }

-- not with a word less of work memory
pub unready : Ready 4 (replicate 16383 0) (replicate 31 0) m3 → ⊥
unready h = let long = h.memory in omega (arith, long, length-replicate {A = ℕ} 16383 0)

pub searchable : Searchable net_a m3
unfolding net_of
searchable = ready_searchable 4 4 links_a (replicate 4 true) (column_of links_a 2 4) (column_of links_a 3 4) (replicate 16384 0) (replicate 31 0) m3 link_table_lem ready

-- not from a node to itself
pub unsearchable : Searchable net_a (asking 0 0 1 8 20 8) → ⊥
unsearchable h = h.apart refl

-- ---- the stated result: what each part of it says of any outcome o that keeps it, on net A
module _ (o : Outcome) where
  -- where no link is usable, that there is no path, and for M3 not
  pub shut_nowhere : Result shut_a m3 o → o ≡ no_path
  shut_nowhere h = h.nowhere.1 shut_no_path

  pub m3_somewhere : Result net_a m3 o → o ≡ no_path → ⊥
  m3_somewhere h e = h.nowhere.0 e three three_path

  -- for M1 that there is no solution, and for M3 not
  pub m1_unsolved : Result net_a m1 o → o ≡ no_solution
  m1_unsolved h = h.unsolved.1 (1, distance_one, m1_none_one, m1_none_two)

  pub m3_solved : Result net_a m3 o → o ≡ no_solution → ⊥
  m3_solved h e = unsolved (h.unsolved.0 e)
    where
      unsolved : Unsolved net_a m3 → ⊥
      unsolved (k, far, none, nor) = let same : k ≡ 1 = one_distance net_a 0 3 k 1 far distance_one in (rw same at none) three m3_solves

  -- M4 is not granted by problem one, and M3 not by problem two
  pub m4_not_one : Result net_a m4 o → (p : List ℕ) → o ≡ granted One p → ⊥
  m4_not_one h p e = solved (h.by_one p e)
    where
      solved : GrantedByOne net_a m4 p → ⊥
      solved (k, far, best) = let same : k ≡ 1 = one_distance net_a 0 3 k 1 far distance_one in m4_none_one p (rw same at best.solves)

  pub m3_not_two : Result net_a m3 o → (p : List ℕ) → o ≡ granted Two p → ⊥
  m3_not_two h p e = unsolved (h.by_two p e)
    where
      unsolved : GrantedByTwo net_a m3 p → ⊥
      unsolved (k, far, none, best) = let same : k ≡ 1 = one_distance net_a 0 3 k 1 far distance_one in (rw same at none) three m3_solves

  -- M3 is granted, since its path is overqualified, and not by link 3, which is over the bound of delay
  pub m3_granted : Result net_a m3 o → (which : Reduction) × (p : List ℕ) × (o ≡ granted which p)
  m3_granted h = h.enough 1 distance_one three three_path m3_enough

  pub m3_not_straight : Result net_a m3 o → (which : Reduction) → o ≡ granted which straight → ⊥
  m3_not_straight h which e = straight_over (h.within which straight e)

-- ---- the distance as the code finds it: 1 on net A, and none where no link is usable
pub distance_found : (distance_if_any net_a 0 3 ≡ Some 1) × (distance_if_any shut_a 0 3 ≡ None)
unfolding net_of distance_if_any distance layer spread member inserted iter first
distance_found = (refl, refl)

-- ---- the code's answer to what was found: a refusal, or a grant with the path's own sums, and not with another delay
abbrev by_three : ℕ → Grant
by_three d = record { problem = One; delay = d; cost = 15; links = 3 }

pub answers : (search_answer_of net_a no_path ≡ Err why.NoPath)
    × (search_answer_of net_a no_solution ≡ Err why.NoSolution)
    × (search_answer_of net_a (granted One three) ≡ Ok (by_three 6))
unfolding net_of search_answer_of
answers = (refl, refl, refl)

pub delay_invented : search_answer_of net_a (granted One three) ≡ Ok (by_three 7) → ⊥
delay_invented e =
    let same : by_three 6 ≡ by_three 7 = cc answers.2 in
    let delay : ◌≡◌ {A = ℕ} 6 7 = ap (λ (g : Grant). g.delay) same in
    omega (arith, delay)

-- ---- networks alike
-- net A with other capacities; a word, a flag, a delay and a cost more
abbrev pub other : Net
unfolding net_of
other =
    net_of 4 4 (0 ∷ 1 ∷ 2 ∷ 5 ∷ 9 ∷ 1 ∷ 2 ∷ 2 ∷ 5 ∷ 9 ∷ 2 ∷ 3 ∷ 2 ∷ 5 ∷ 9 ∷ 0 ∷ 3 ∷ 9 ∷ 1 ∷ 9 ∷ 7 ∷ []) (replicate 5 true)
    (2 ∷ 2 ∷ 2 ∷ 9 ∷ 7 ∷ []) (5 ∷ 5 ∷ 5 ∷ 1 ∷ 7 ∷ [])

pub alike : Alike net_a other
unfolding net_of
alike =
    record {
      nodes = refl;
      links = refl;
      tail = four net_a.tail other.tail refl refl refl refl;
      head = four net_a.head other.head refl refl refl refl;
      usable = four net_a.usable other.usable refl refl refl refl;
      delay = four net_a.delay other.delay refl refl refl refl;
      cost = four net_a.cost other.cost refl refl refl refl;
    }

-- and the two are not the same
pub not_same : net_a ≡ other → ⊥
unfolding net_of
not_same e = true≢false (sym (ap (λ (g : Net). g.usable 4) e))

-- net A and net A with no usable link are not alike
pub not_alike : Alike net_a shut_a → ⊥
unfolding net_of
not_alike h = true≢false (h.usable 0 (omega arith))

-- ---- settled links, for M3's problem one and column 0
abbrev pub problem : Problem
problem = one net_a m3 1

-- a table of 4 nodes and 9 columns, as it is first, and when the rounds are done
abbrev pub at_first : List ℕ
at_first = initialised net_a problem 0 (replicate 72 0)

abbrev pub at_last : List ℕ
at_last = ebf net_a problem 0 (replicate 72 0)

-- at first link 0 has something to offer
pub unsettled : SettledColumn net_a problem 0 at_first → ⊥
unfolding net_of problem_one scaled initialised filled cell cells iter
unsettled h = let settled = h 0 (omega arith) refl (omega arith) (omega arith) in omega (arith, settled)

-- in the end no link has
abbrev there : ℕ → ℕ
there i = number at_last (cell problem.x (net_a.head i) (0 + problem.scaled_by i))

abbrev offer : ℕ → ℕ
offer i = number at_last (cell problem.x (net_a.tail i) 0) + problem.kept i

no_more : (i : ℕ) → i < 4 → there i ≤ offer i
unfolding net_of problem_one scaled initialised filled cell cells iter improved relaxed offered column round rounds ebf every
no_more i low = leb-true (there i) (offer i) (every_at (λ j. leb (there j) (offer j)) i 4 low refl)

pub settled_column : SettledColumn net_a problem 0 at_last
unfolding net_of
settled_column i low usable allowed reached = no_more i low

-- Cases of the paper's table, by hand, on net P; docs/paper-lines.md has the calculation of each. A case is a quote with the
-- entries d[v, k] and π[v, k] that the paper's lines leave of one of its problems, the words of that table, and the reply.
-- Assumes nothing.
use Rattle.std.specs.Prelude.{ℕ, ◌≡◌, List, [], ◌∷◌, replicate}
use Rattle.network.specs.Lists.{from}
use Rattle.network.specs.Net.{Net}
use Rattle.network.specs.Problem.{Problem, Distance}
use Rattle.network.specs.declared.Request.{Request}
use Rattle.network.specs.declared.answer.Reduction.{Reduction}
use Rattle.network.specs.declared.answer.Reduction.TheVariants.{One, Two}
use Rattle.network.specs.Reduce.{one, two}
use Rattle.search.specs.Paper.{Estimation, weight, ∞, Predecessor, link, NIL, Variables}
use Rattle.search.specs.Paper as paper
use Rattle.search.specs.ebf.Table.{ebf}
use Rattle.area.specs.Load.{load_answer}
use Rattle.area.specs.Refusals.{refuses, grants}
use Rattle.rules.specs.Replies.{PathReply, granting}
use Rattle.rules.specs.Meaning.{net_for}
use Rattle.cases.specs.declared.Asked.TheVariants.{Quote}
use Rattle.cases.specs.Document01.{area, blank, unheld, asks, Holds}
use Rattle.cases.specs.Replied.{replied}

-- ---- the net
-- From 0 to 3 by node 1, to which links 2, 3 and 4 lead, and from there by links 1 and 0 or by link 7; and straight by link 5, so
-- the distance is 1. Link 6 has no unit free.
abbrev pub links_p : List ℕ
links_p =
    2 ∷ 3 ∷ 2 ∷ 0 ∷ 9
    ∷ 1 ∷ 2 ∷ 2 ∷ 0 ∷ 9
    ∷ 0 ∷ 1 ∷ 2 ∷ 1 ∷ 9
    ∷ 0 ∷ 1 ∷ 2 ∷ 0 ∷ 9
    ∷ 0 ∷ 1 ∷ 2 ∷ 0 ∷ 9
    ∷ 0 ∷ 3 ∷ 8 ∷ 0 ∷ 9
    ∷ 0 ∷ 2 ∷ 1 ∷ 0 ∷ 0
    ∷ 1 ∷ 3 ∷ 1 ∷ 2 ∷ 9
    ∷ []

unfoldable pub net_p : List ℕ
unfolding area
net_p = area links_p

abbrev pub PaperNetLoaded : Type 0
PaperNetLoaded = load_answer blank (unheld links_p) ≡ grants tt

-- ---- the cases
-- one entry of a table
pub record Cell : Type 0 where
  pub d : Estimation
  pub π : Predecessor

-- a case's number in docs/paper-lines.md, the request, the problem whose table it is, the entries of v = 0 to 3, each for k = 0
-- to 2, the words, and the reply
pub record TableCase : Type 0 where
  pub number : ℕ
  pub request : Request
  pub problem : Reduction
  pub entries : List (List Cell)
  pub words : List ℕ
  pub reply : PathReply

-- the source, an entry that link i has put, and one that no link has
abbrev pub start : Cell
start = record { d = weight 0; π = NIL }

abbrev pub by : ℕ → ℕ → Cell
by n i = record { d = weight n; π = link i }

abbrev pub none : Cell
none = record { d = ∞; π = NIL }

abbrev pub entries_one : List (List Cell)
entries_one =
    (start ∷ start ∷ start ∷ [])
    ∷ (by 2 3 ∷ by 2 2 ∷ by 2 2 ∷ [])
    ∷ (by 4 1 ∷ by 4 1 ∷ by 4 1 ∷ [])
    ∷ (by 6 0 ∷ by 6 0 ∷ by 3 7 ∷ [])
    ∷ []

abbrev pub entries_two : List (List Cell)
entries_two =
    (start ∷ start ∷ start ∷ [])
    ∷ (none ∷ none ∷ by 0 3 ∷ [])
    ∷ (none ∷ none ∷ none ∷ [])
    ∷ (none ∷ none ∷ none ∷ [])
    ∷ []

abbrev pub p1 : TableCase
p1 =
    record {
      number = 1;
      request = asks 1 6 2 2;
      problem = One;
      entries = entries_one;
      words =
          0 ∷ 256 ∷ 0 ∷ 256 ∷ 0 ∷ 256
          ∷ 2 ∷ 3 ∷ 2 ∷ 2 ∷ 2 ∷ 2
          ∷ 4 ∷ 1 ∷ 4 ∷ 1 ∷ 4 ∷ 1
          ∷ 6 ∷ 0 ∷ 6 ∷ 0 ∷ 3 ∷ 7
          ∷ [];
      reply = granting One 3 2 (3 ∷ 7 ∷ []);
    }

-- two entries over the bound
abbrev pub p2 : TableCase
p2 =
    record {
      number = 2;
      request = asks 1 4 2 2;
      problem = One;
      entries = entries_one;
      words =
          0 ∷ 256 ∷ 0 ∷ 256 ∷ 0 ∷ 256
          ∷ 2 ∷ 3 ∷ 2 ∷ 2 ∷ 2 ∷ 2
          ∷ 4 ∷ 1 ∷ 4 ∷ 1 ∷ 4 ∷ 1
          ∷ 5 ∷ 256 ∷ 5 ∷ 256 ∷ 3 ∷ 7
          ∷ [];
      reply = granting One 3 2 (3 ∷ 7 ∷ []);
    }

-- neither problem has a solution, and the table of problem two is left
abbrev pub p3 : TableCase
p3 =
    record {
      number = 3;
      request = asks 1 2 2 2;
      problem = Two;
      entries = entries_two;
      words =
          0 ∷ 256 ∷ 0 ∷ 256 ∷ 0 ∷ 256
          ∷ 3 ∷ 256 ∷ 3 ∷ 256 ∷ 0 ∷ 3
          ∷ 3 ∷ 256 ∷ 3 ∷ 256 ∷ 3 ∷ 256
          ∷ 3 ∷ 256 ∷ 3 ∷ 256 ∷ 3 ∷ 256
          ∷ [];
      reply = refuses 10;
    }

unfoldable pub table_cases : List TableCase
table_cases = p1 ∷ p2 ∷ p3 ∷ []

-- ---- what they say
-- the variables' entries as rows
abbrev pub rows : Variables → List (List Cell)
rows t = from (λ v. from (λ k. record { d = t.d v k; π = t.π v k }) 0 3) 0 4

-- a work memory as long as the table, in which other words stand
abbrev pub nines : List ℕ
nines = replicate 24 9

module _ (c : TableCase) where
  -- the net that the request sees
  abbrev pub its_net : Net
  its_net = net_for net_p c.request

  -- its problem at distance 1
  abbrev pub problem_for : Reduction → Problem
  problem_for One = one its_net c.request 1
  problem_for Two = two its_net c.request 1

  abbrev pub its_problem : Problem
  its_problem = problem_for c.problem

  pub record TableHolds : Type 0 where
    -- so x is the coefficient times 1
    pub distance : Distance its_net c.request.source c.request.target 1
    -- by the paper's lines, whatever the variables held before
    pub entries : (before : Variables) → rows (paper.ebf its_net its_problem c.request.source before) ≡ c.entries
    -- by the code's model
    pub words : ebf its_net its_problem c.request.source nines ≡ c.words
    -- what the quote means, and what its definition replies
    pub meant : Holds net_p (Quote c.request) c.reply
    pub replies : replied net_p (Quote c.request) ≡ c.reply

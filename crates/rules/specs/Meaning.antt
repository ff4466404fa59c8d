-- What quote, admission and release mean on an area, with no algorithm: each call's rules in document 01's order, what a
-- grant must be, and what that says of an answer and of the words that the call leaves.
-- Assumes nothing.
use Rattle.std.specs.Prelude.{ℕ, ◌≡◌, List, ◌∷◌, ◌++◌, length}
use Rattle.network.specs.Net.{Net}
use Rattle.network.specs.declared.Request.{Request}
use Rattle.area.specs.Station.{Circuit, station}
use Rattle.area.specs.Books.{Books, books, net}
use Rattle.area.specs.Formed.{WellFormed}
use Rattle.area.specs.Order.{placed}
use Rattle.area.specs.Moves.{without, Untouched}
use Rattle.area.specs.Refusals.{Rule, ◌when◌, Reply, refuses, grants, Answered}
use Rattle.network.specs.declared.Grant.{Grant as Numbers}
use Rattle.rules.specs.Replies.{PathReply, answer_of, path_after, ReleaseReply}
use Rattle.rules.specs.Allowed.{Grant, search_rules, request_rules, number_rules, release_rules}

-- the books of an area
abbrev pub books_in : List ℕ → Books
books_in w = books (station w)

-- ---- which replies the rules allow
-- the rules of an area before the search
abbrev pub quote_rules : List ℕ → ℕ → ℕ → Request → List Rule
quote_rules w work path r = (5 when (WellFormed w → ⊥)) ∷ request_rules (books_in w) work path r

-- the network that a request sees on an area
abbrev pub net_for : List ℕ → Request → Net
net_for w r = net (books_in w) r

-- a quote's reply
abbrev pub Quoted : List ℕ → ℕ → ℕ → Request → PathReply → Type 0
Quoted w work path r a = Answered (Grant (net_for w r) r) (quote_rules w work path r ++ search_rules (net_for w r) r) a

-- an admission's reply
abbrev pub Admitted : List ℕ → ℕ → ℕ → ℕ → Request → PathReply → Type 0
Admitted w work path c r a =
    Answered (Grant (net_for w r) r) (quote_rules w work path r ++ number_rules (books_in w) c ++ search_rules (net_for w r) r) a

-- a release's reply
abbrev pub Cleared : List ℕ → ℕ → ReleaseReply → Type 0
Cleared w c a = Answered (λ _. Unit {0}) ((5 when (WellFormed w → ⊥)) ∷ release_rules (books_in w) c) a

-- ---- what is left of the area
-- the circuit of number c with u units by the path p
abbrev pub circuit_for : ℕ → ℕ → List ℕ → Circuit
circuit_for c u p = record { number = c; units = u; path = p }

-- an area w' that holds these circuits and is otherwise as w: it is well formed, so they stand by rising number and their
-- unused path words are 0; words past the last circuit are open
pub record Rebooked (w w' : List ℕ) (held : List Circuit) : Type 0 where
  pub holds : (station w').held ≡ held
  pub formed : WellFormed w'
  pub untouched : Untouched w w'

-- after an admission the granted circuit is held besides, at its place, after a release the one with its number is not; a
-- refusal changes no word
abbrev pub AreaBooked : List ℕ → ℕ → ℕ → PathReply → List ℕ → Type 0
AreaBooked w c u (refuses k) w' = w' ≡ w
AreaBooked w c u (grants g) w' = Rebooked w w' (placed (circuit_for c u g.path) (station w).held)

abbrev pub AreaCleared : List ℕ → ℕ → ReleaseReply → List ℕ → Type 0
AreaCleared w c (refuses k) w' = w' ≡ w
AreaCleared w c (grants _) w' = Rebooked w w' (without c (station w).held)

-- ---- what an answer means
-- A call on the words w, with `work` words of work memory, the path buffer l and a request r, answered `said`, and left l' in the
-- path buffer and w' in the area: there is a reply that the rules allow, and these are its answer and what it leaves.
pub record QuoteMeans (w : List ℕ) (work : ℕ) (l : List ℕ) (r : Request) (said : Reply Numbers) (l' : List ℕ) : Type 0 where
  pub reply : PathReply
  pub allowed : Quoted w work (length l) r reply
  pub answer : said ≡ answer_of reply
  pub path : l' ≡ path_after reply l

pub record AdmissionMeans (w : List ℕ) (work : ℕ) (l : List ℕ) (c : ℕ) (r : Request) (said : Reply Numbers) (l' w' : List ℕ) : Type 0 where
  pub reply : PathReply
  pub allowed : Admitted w work (length l) c r reply
  pub answer : said ≡ answer_of reply
  pub path : l' ≡ path_after reply l
  pub area : AreaBooked w c r.terms.units reply w'

-- A release says its whole reply.
pub record ReleaseMeans (w : List ℕ) (c : ℕ) (said : ReleaseReply) (w' : List ℕ) : Type 0 where
  pub allowed : Cleared w c said
  pub area : AreaCleared w c said w'

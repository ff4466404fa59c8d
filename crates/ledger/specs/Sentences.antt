-- The words that the demands are said with: of the network that a request sees, and of a place in a list of calls.
-- Assumes nothing.
use Rattle.std.specs.Prelude.{ℕ, ◌≡◌, List, [], ◌∷◌, ◌⊎◌}
use Rattle.network.specs.Net.{Net, IsPath}
use Rattle.network.specs.Problem.{Solves, Distance}
use Rattle.network.specs.Reduce.{delay_bound, cost_bound, one, two, WithinBounds, Enough}
use Rattle.network.specs.declared.Request.{Request}
use Rattle.area.specs.Books.{Books, books}
use Rattle.rules.specs.Replies.{PathReply}
use Rattle.rules.specs.AdmitJobs.{JobReply, job_booked}
use Rattle.ledger.specs.Entries.{Call, quoting, admitting, releasing, admitting_jobs, ReplyTo, Ledger, seen}
use Rattle.ledger.specs.History.{Event, after}

module _ (g : Net) (r : Request) where
  -- the request's nodes are at distance k, so x is the coefficient times k
  abbrev pub AtDistance : ℕ → Type 0
  AtDistance k = Distance g r.source r.target k

  -- a usable path solves one of the two reduced problems
  abbrev pub Solvable : Type 0
  Solvable =
      (k : ℕ) × AtDistance k
      × ((p : List ℕ) × (Solves g (one g r k) r.source r.target p ⊎ Solves g (two g r k) r.source r.target p))

  -- a usable path is overqualified in either way: by the paper's condition one or its condition two
  abbrev pub Overqualifies : Type 0
  Overqualifies = (k : ℕ) × AtDistance k × ((p : List ℕ) × IsPath g r.source r.target p × Enough g r k p)

  -- a usable path keeps both original bounds: what an exact search would look for
  abbrev pub Feasible : Type 0
  Feasible = (p : List ℕ) × IsPath g r.source r.target p × WithinBounds g r p

-- the job may take no time, or cost nothing
abbrev pub ZeroBound : Request → Type 0
ZeroBound r = (delay_bound r ≡ 0) ⊎ (cost_bound r ≡ 0)

-- P holds at every place of a list: of the ledger's books as they stand there, the call and its answer
abbrev pub AtEvery : (Books → (q : Call ℕ) → ReplyTo q → Type 0) → Ledger → List Event → Type 0
AtEvery P l [] = Unit
AtEvery P l (e ∷ es) = P (books l) e.call e.reply × AtEvery P (after l e) es

-- P holds where a call is a quote or an admission: of the ledger's books, the request and the answer
abbrev pub AtRequest : (Books → Request → PathReply → Type 0) → Books → (q : Call ℕ) → ReplyTo q → Type 0
AtRequest P o (quoting work path r) a = P o r a
AtRequest P o (admitting work path c r) a = P o r a
AtRequest P o (releasing c) a = Unit
AtRequest P o (admitting_jobs work jobs answers) a = Unit

-- the same of the network that the request sees, the request and the answer
abbrev pub OfRequest : (Net → Request → PathReply → Type 0) → Books → (q : Call ℕ) → ReplyTo q → Type 0
OfRequest P = AtRequest (λ o r a. P (seen o r) r a)

-- P holds of each job's reply in one call: of the area where it comes, the request and the reply
abbrev pub EachJob : (List ℕ → Request → PathReply → Type 0) → List ℕ → List JobReply → Type 0
EachJob P w [] = Unit
EachJob P w (a ∷ rs) = P w a.job.request a.reply × EachJob P (job_booked w a) rs

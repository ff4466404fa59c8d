-- The ledger of the third demand, by document 01's section on it. It knows neither the words of an area nor the search.
-- It is fed the numbers that were loaded, the calls' numbers, the lengths of work memory, path buffer and answer buffer and, of
-- the answers, only the paths of granted admissions. Each job of a granted call for all jobs (Req 06) is one admission to it.
-- Assumes nothing.
use Rattle.std.specs.Prelude.{ℕ, List, [], ◌∷◌, ◌++◌}
use Rattle.std.proofs.Math.Option.{Option, none, some}
use Rattle.network.specs.Net.{Net}
use Rattle.network.specs.declared.Request.{Request}
use Rattle.area.specs.Station.{Circuit, Station}
use Rattle.area.specs.Books.{Books, net}
use Rattle.area.specs.Moves.{without_number}
use Rattle.area.specs.Load.{LoadInput, table_of}
use Rattle.area.specs.Refusals.{Rule, FirstApplies, Reply, refuses, grants}
use Rattle.rules.specs.Replies.{PathGrant}
use Rattle.rules.specs.Allowed.{Grant, request_rules, number_rules, search_rules, release_rules}
use Rattle.rules.specs.AdmitJobs.{JobReply, job_list_rules, OneForEach}

-- ---- what it is fed
-- A call: its numbers and, where it takes them, work memory, path buffer and answer buffer. The ledger is fed the lengths of
-- these three, so it reads a `Call ℕ`; a history, which lends them, is made of `Call (List ℕ)`. A job list is numbers.
pub data Call (Lent : Type 0) : Type 0 where
  quoting : (work path : Lent) → Request → Call Lent
  admitting : (work path : Lent) → (number : ℕ) → Request → Call Lent
  releasing : (number : ℕ) → Call Lent
  admitting_jobs : (work : Lent) → (jobs : List ℕ) → (answers : Lent) → Call Lent

-- what a call is granted: a quote and an admission a path with its problem, delay and cost; a release that the circuit
-- goes, and nothing besides; all jobs in one call, as a station opens, a reply for each job
abbrev pub Granting : Call ℕ → Type 0
Granting (quoting work path r) = PathGrant
Granting (admitting work path c r) = PathGrant
Granting (releasing c) = Unit {0}
Granting (admitting_jobs work jobs answers) = List JobReply

-- a call's reply: refused with a number, or granted that
abbrev pub ReplyTo : Call ℕ → Type 0
ReplyTo q = Reply (Granting q)

-- of an answer: the path, where it grants an admission. What the call for all jobs books is told by its jobs' admissions
abbrev pub told : (q : Call ℕ) → ReplyTo q → Option (List ℕ)
told (quoting work path r) a = none
told (admitting work path c r) (refuses k) = none
told (admitting work path c r) (grants g) = some g.path
told (releasing c) a = none
told (admitting_jobs work jobs answers) a = none

-- ---- what it holds
-- the table and the hold times that were loaded, and entries of circuit number, units and path
abbrev pub Ledger : Type 0
Ledger = Station

-- at first it has no entries
abbrev pub opened : LoadInput → Ledger
opened input = record { table = table_of input; held = [] }

-- What the rules ask of the entries is in their `books`, which the crate `area` defines: a link's free units are its
-- capacity minus the units of all entries whose path uses it, and a number is held if an entry has it. The rules below
-- are by these books.

-- the network that a request sees: a link is usable if its free units are at least the units asked for, and its delay is with
-- the hold time of the node that it enters, unless that is the target. Distance, x and both problems are this network's.
abbrev pub seen : Books → Request → Net
seen o r = net o r

-- ---- which answers it allows
-- the rules before the search, in the order given for each call; the area is always well formed, so 5 is not among them
abbrev pub checks : Books → Call ℕ → List Rule
checks o (quoting work path r) = request_rules o work path r
checks o (admitting work path c r) = request_rules o work path r ++ number_rules o c
checks o (releasing c) = release_rules o c
checks o (admitting_jobs work jobs answers) = job_list_rules work jobs answers

-- those of the search: 9 and 10
abbrev pub searches : Books → Call ℕ → List Rule
searches o (quoting work path r) = search_rules (seen o r) r
searches o (admitting work path c r) = search_rules (seen o r) r
searches o (releasing c) = []
searches o (admitting_jobs work jobs answers) = []

abbrev pub rules : Books → Call ℕ → List Rule
rules o q = checks o q ++ searches o q

-- the ledger refuses a call with k
abbrev pub Refuses : Books → Call ℕ → ℕ → Type 0
Refuses o q k = FirstApplies (rules o q) k

-- what must be granted where no rule applies
abbrev pub Grants : Books → (q : Call ℕ) → Granting q → Type 0
Grants o (quoting work path r) g = Grant (seen o r) r g
Grants o (admitting work path c r) g = Grant (seen o r) r g
Grants o (releasing c) g = Unit {0}
Grants o (admitting_jobs work jobs answers) g = OneForEach jobs g

-- ---- how the entries move
abbrev pub entry : ℕ → Request → List ℕ → Circuit
entry c r p = record { number = c; units = r.terms.units; path = p }

-- the entries stand in the order of admission, the newest first
abbrev pub with_entry : Ledger → Circuit → Ledger
with_entry l e = record { table = l.table; held = e ∷ l.held }

-- A quote, a refused call and the call for all jobs itself leave the ledger alone. A granted admission adds its number, its units and the path. A
-- release removes the entry with its number; where none has it, the release is refused and nothing is removed.
abbrev pub moved : Ledger → Call ℕ → Option (List ℕ) → Ledger
moved l (quoting work path r) granted = l
moved l (admitting work path c r) none = l
moved l (admitting work path c r) (some p) = with_entry l (entry c r p)
moved l (releasing c) granted = without_number l c
moved l (admitting_jobs work jobs answers) granted = l

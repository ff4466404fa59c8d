-- A history: a list of calls, where each gets the area that the one before left. It is made of the very definitions that
-- the contracts of quote, admit, release and admit_jobs cite. And what it is to strike quotes from one.
-- Assumes nothing.
use Rattle.std.specs.Prelude.{ℕ, ◌*◌, ◌≡◌, List, [], ◌∷◌, ◌++◌, map, length, take}
use Rattle.network.specs.Limits.{path_words}
use Rattle.network.specs.declared.Request.{Request}
use Rattle.area.specs.Station.{Circuit, Station, station}
use Rattle.area.specs.Order.{by_number}
use Rattle.network.specs.declared.Grant.{Grant as Numbers}
use Rattle.area.specs.Refusals.{Reply, refuses, grants}
use Rattle.area.specs.Reads.{count_of}
use Rattle.rules.specs.Replies.{PathReply, answer_of, path_of, path_after, ReleaseReply}
use Rattle.rules.specs.Calls.{quote, admission, booked, release, cleared}
use Rattle.rules.specs.declared.Job.{Job}
use Rattle.rules.specs.AdmitJobs.{answer_words, JobReply, JobsReply, job_answers, admit_jobs, jobs_booked, jobs_answered}
use Rattle.ledger.specs.Entries.{Call, quoting, admitting, releasing, admitting_jobs, ReplyTo, told, Ledger, moved}

-- a call with the words that it is lent, as they stand before it
abbrev pub Lending : Type 0
Lending = Call (List ℕ)

-- its numbers, and the lengths of what it is lent
abbrev pub measured : Lending → Call ℕ
measured (quoting work path r) = quoting (length work) (length path) r
measured (admitting work path c r) = admitting (length work) (length path) c r
measured (releasing c) = releasing c
measured (admitting_jobs work jobs answers) = admitting_jobs (length work) jobs (length answers)

-- ---- one call on an area
-- the reply that the contract of its call gives: by its numbers and lengths, and by no word that it is lent
abbrev pub reply_to : List ℕ → (q : Call ℕ) → ReplyTo q
reply_to w (quoting work path r) = quote w work path r
reply_to w (admitting work path c r) = admission w work path c r
reply_to w (releasing c) = release w c
reply_to w (admitting_jobs work jobs answers) = admit_jobs w work jobs answers

-- the area after; a quote is lent it unchangeable
abbrev pub area_after : List ℕ → Call ℕ → List ℕ
area_after w (quoting work path r) = w
area_after w (admitting work path c r) = booked w c r.terms.units (admission w work path c r)
area_after w (releasing c) = cleared w c (release w c)
area_after w (admitting_jobs work jobs answers) = jobs_booked w (admit_jobs w work jobs answers)

-- ---- what it gives
-- the buffer that it is lent for what it writes: the path buffer or the answer buffer; a release is lent none
abbrev pub buffer : Lending → List ℕ
buffer (quoting work path r) = path
buffer (admitting work path c r) = path
buffer (releasing c) = []
buffer (admitting_jobs work jobs answers) = answers

-- how many links an answer counts, and how many jobs
abbrev pub links_of : Reply Numbers → ℕ
links_of (refuses k) = 0
links_of (grants g) = g.links

abbrev pub jobs_of : Reply ℕ → ℕ
jobs_of (refuses k) = 0
jobs_of (grants n) = n

-- the papers' answer: of a quote or an admission the numbers, and the l words that a grant writes in the path buffer; of
-- a release its numbers; of all jobs in one call how many they are, and the 36 words that a grant writes for each
pub data Given : Type 0 where
  of_request : (numbers : Reply Numbers) → (words : List ℕ) → Given
  of_release : (numbers : ReleaseReply) → Given
  of_jobs : (count : Reply ℕ) → (words : List ℕ) → Given

-- of a quote or an admission that is lent the path buffer `path` and has the reply a: the answer and the first l words of the
-- path buffer after, both as the contracts say
unfoldable pub path_given : List ℕ → PathReply → Given
unfolding answer_of path_after
path_given path a = of_request (answer_of a) (take (links_of (answer_of a)) (path_after a path))

-- likewise of all jobs in one call, which is lent the answer buffer `answers`
unfoldable pub jobs_given : List ℕ → JobsReply → Given
unfolding jobs_answered
jobs_given answers a = of_jobs (count_of a) (take (answer_words * jobs_of (count_of a)) (jobs_answered a answers))

abbrev pub given : List ℕ → (q : Call ℕ) → ReplyTo q → Given
given path (quoting work len r) a = path_given path a
given path (admitting work len c r) a = path_given path a
given path (releasing c) a = of_release a
given answers (admitting_jobs work jobs len) a = jobs_given answers a

-- of a call on an area
abbrev pub given_to : List ℕ → Lending → Given
given_to w c = given (buffer c) (measured c) (reply_to w (measured c))

-- the words that a reply alone says are written for its jobs
abbrev pub words_of_jobs : JobsReply → List ℕ
words_of_jobs (refuses k) = []
words_of_jobs (grants rs) = job_answers rs

-- what the reply alone says: its numbers, and the words of the path that it grants
abbrev pub given_by : (q : Call ℕ) → ReplyTo q → Given
given_by (quoting work len r) a = of_request (answer_of a) (path_of a)
given_by (admitting work len c r) a = of_request (answer_of a) (path_of a)
given_by (releasing c) a = of_release a
given_by (admitting_jobs work jobs len) a = of_jobs (count_of a) (words_of_jobs a)

-- ---- a list of calls
pub record Event : Type 0 where
  pub call : Call ℕ
  pub reply : ReplyTo call

-- a call on an area, with its reply
abbrev pub event : List ℕ → Call ℕ → Event
event w q = record { call = q; reply = reply_to w q }

-- a job of a granted call is an admission, with work memory of the call's length and a path buffer of 31 words; with its reply
abbrev pub job_call : ℕ → Job → Call ℕ
job_call work j = admitting work path_words j.number j.request

abbrev pub job_event : ℕ → JobReply → Event
job_event work a = record { call = job_call work a.job; reply = a.reply }

-- the admissions that a call makes besides itself: one for each job, where all jobs in one call are granted
abbrev pub jobs_admitted : (q : Call ℕ) → ReplyTo q → List Event
jobs_admitted (quoting work path r) a = []
jobs_admitted (admitting work path c r) a = []
jobs_admitted (releasing c) a = []
jobs_admitted (admitting_jobs work jobs answers) (refuses k) = []
jobs_admitted (admitting_jobs work jobs answers) (grants rs) = map (job_event work) rs

-- the events that a call on an area gives: itself with its reply, and then its jobs
abbrev pub events : List ℕ → Call ℕ → List Event
events w q = event w q ∷ jobs_admitted q (reply_to w q)

-- those of each call of a list
abbrev pub history : List ℕ → List Lending → List Event
history w [] = []
history w (c ∷ cs) = events w (measured c) ++ history (area_after w (measured c)) cs

-- the calls alone, one event for each
abbrev pub calls_made : List ℕ → List Lending → List Event
calls_made w [] = []
calls_made w (c ∷ cs) = event w (measured c) ∷ calls_made (area_after w (measured c)) cs

-- the answers, one for each call
abbrev pub answers : List ℕ → List Lending → List Given
answers w [] = []
answers w (c ∷ cs) = given_to w c ∷ answers (area_after w (measured c)) cs

abbrev pub area_at_end : List ℕ → List Lending → List ℕ
area_at_end w [] = w
area_at_end w (c ∷ cs) = area_at_end (area_after w (measured c)) cs

-- document 01's bookings: the held circuits of an area, each with its units and path. Req 04 has them in one order
abbrev pub bookings : List ℕ → List Circuit
bookings w = (station w).held

-- a ledger as an area has it: its entries stand in the order of admission, and the circuits by rising number
abbrev pub arranged : Ledger → Station
arranged l = record { table = l.table; held = by_number l.held }

-- the ledger after a call and its reply, and after a list of them
abbrev pub after : Ledger → Event → Ledger
after l e = moved l e.call (told e.call e.reply)

abbrev pub at_end : Ledger → List Event → Ledger
at_end l [] = l
at_end l (e ∷ es) = at_end (after l e) es

-- ---- quotes struck
-- ds is cs with some of its quotes struck, no matter which. A call that remains has the same numbers and is lent as many
-- words, of any contents.
pub data Struck : List Lending → List Lending → Type 0 where
  end : Struck [] []
  strike : {work path : List ℕ} {r : Request} {cs ds : List Lending} → Struck cs ds → Struck (quoting work path r ∷ cs) ds
  keep : {c d : Lending} {cs ds : List Lending} → measured c ≡ measured d → Struck cs ds → Struck (c ∷ cs) (d ∷ ds)

-- of the answers to cs, those to the calls that remain
abbrev pub remaining : {cs ds : List Lending} → Struck cs ds → List Given → List Given
remaining end l = []
remaining (strike s) [] = []
remaining (strike s) (a ∷ l) = remaining s l
remaining (keep e s) [] = []
remaining (keep e s) (a ∷ l) = a ∷ remaining s l

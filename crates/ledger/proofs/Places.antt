-- Each sentence of the demands at one place of a list, drawn from what the ledger says there: o is its books, q
-- the call, a the answer.
-- Assumes nothing.
use Prim.Native.Nat.{ℕ}
use mathlib.Core.Path.{◌≡◌, refl, sym, ◌∙◌, subst}
use mathlib.Core.Bool.{false, true≢false}
use mathlib.Core.List.{List, [], ◌++◌}
use mathlib.Core.Logic.{inl, inr, ◌↔◌}
use Rattle.network.specs.Lists.{memb}
use Rattle.network.specs.declared.Request.{Request}
use Rattle.area.specs.Books.{Books, books, path_delay}
use Rattle.area.specs.Refusals.{Rule, Passes, refuses, grants, IsRefused, IsGranted, Answered}
use Rattle.area.proofs.Keeps.{unheld_stays}
use Rattle.area.proofs.Refusals.{numbers_of, first_among, past, refused_exactly}
use Rattle.rules.specs.Requests.{RequestFits}
use Rattle.rules.specs.Replies.{PathGrant, PathReply}
use Rattle.rules.specs.Allowed.{Grant, request_rules, number_rules, search_rules}
use Rattle.rules.specs.Meaning.{books_in, quote_rules, net_for}
use Rattle.rules.proofs.Delays.{granted_delay}
use Rattle.rules.proofs.Meaning.{request_past}
use Rattle.ledger.specs.Entries.{Call, quoting, admitting, releasing, admitting_jobs, Granting, ReplyTo, told, Ledger, seen, checks, rules, Refuses, Grants, moved}
use Rattle.ledger.specs.Sentences.{Solvable, Overqualifies, Feasible, ZeroBound, AtRequest, OfRequest}
use Rattle.ledger.specs.Demand.{GrantedPath, PathsGranted}
use Rattle.ledger.proofs.Searches.{search_exactly, search_enough, zero_exactly, grant_path_granted}
use Rattle.ledger.proofs.Steps.{Says}

pub refused_as : (o : Books) (q : Call ℕ) (a : ReplyTo q) → Says o q a → (k : ℕ) → (a ≡ refuses k) ↔ Refuses o q k
refused_as o q a = refused_exactly (Grants o q) (rules o q) a

-- no rule has the number 5
five_not_among : (o : Books) (q : Call ℕ) → memb 5 (numbers_of (rules o q)) ≡ false
five_not_among o (quoting work path r) = refl
five_not_among o (admitting work path c r) = refl
five_not_among o (releasing c) = refl
five_not_among o (admitting_jobs work jobs answers) = refl

pub not_five : (o : Books) (q : Call ℕ) (a : ReplyTo q) → Says o q a → a ≡ refuses 5 → ⊥
not_five o q a h e =
    true≢false (sym (first_among (rules o q) 5 ((refused_as o q a h 5).0 e)) ∙ five_not_among o q)

pub answered : (o : Books) (q : Call ℕ) (a : ReplyTo q) → Says o q a → (b : Granting q) → a ≡ grants b → Grants o q b
answered o q a h b e = (subst (Says o q) e h).1

-- a refused call leaves the ledger alone, and a quote does by `moved`: where a release is refused, no entry has its number
pub refused_alone : (l : Ledger) (q : Call ℕ) (k : ℕ) → Says (books l) q (refuses k) → moved l q (told q (refuses k)) ≡ l
unfolding books
refused_alone l (quoting work path r) k h = refl
refused_alone l (admitting work path c r) k h = refl
refused_alone l (releasing c) k (inl (lacks, e)) = unheld_stays l c lacks
refused_alone l (releasing c) k (inr (m, h)) = absurd h
refused_alone l (admitting_jobs work jobs answers) k h = refl

-- ---- past the checks
pub exactly_refused : (o : Books) (q : Call ℕ) (a : ReplyTo q) → Says o q a → Passes (checks o q)
    → OfRequest (λ g r b. IsRefused b ↔ (Solvable g r → ⊥)) o q a
exactly_refused o (quoting work path r) a h n = search_exactly (seen o r) r a (past (Grant (seen o r) r) (checks o (quoting work path r)) (search_rules (seen o r) r) a n h)
exactly_refused o (admitting work path c r) a h n =
    search_exactly (seen o r) r a (past (Grant (seen o r) r) (checks o (admitting work path c r)) (search_rules (seen o r) r) a n h)
exactly_refused o (releasing c) a h n = tt
exactly_refused o (admitting_jobs work jobs answers) a h n = tt

-- past rule 8, the third, a request fits
module _ (o : Books) (work path : ℕ) (r : Request) (rs : List Rule) (n : Passes (request_rules o work path r ++ rs)) where
  fits : RequestFits o.table.nodes r
  fits = request_past o.table.nodes r n.1.1.0

  enough : (a : PathReply) → Answered (Grant (seen o r) r) (search_rules (seen o r) r) a → Overqualifies (seen o r) r → IsGranted a
  enough a h = search_enough (seen o r) r o.table.nodes fits a h

  exactly : ZeroBound r → (a : PathReply) → Answered (Grant (seen o r) r) (search_rules (seen o r) r) a → IsRefused a ↔ (Feasible (seen o r) r → ⊥)
  exactly = zero_exactly (seen o r) r o.table.nodes fits

  granted_path : (b : PathGrant) → Grant (seen o r) r b → GrantedPath (seen o r) r b
  granted_path b h = grant_path_granted (seen o r) r o.table.nodes fits b h

pub enough_granted : (o : Books) (q : Call ℕ) (a : ReplyTo q) → Says o q a → Passes (checks o q)
    → OfRequest (λ g r b. Overqualifies g r → IsGranted b) o q a
enough_granted o (quoting work path r) a h n =
    enough o work path r [] n a (past (Grant (seen o r) r) (checks o (quoting work path r)) (search_rules (seen o r) r) a n h)
enough_granted o (admitting work path c r) a h n =
    enough o work path r (number_rules o c) n a (past (Grant (seen o r) r) (checks o (admitting work path c r)) (search_rules (seen o r) r) a n h)
enough_granted o (releasing c) a h n = tt
enough_granted o (admitting_jobs work jobs answers) a h n = tt

pub zero_refused : (o : Books) (q : Call ℕ) (a : ReplyTo q) → Says o q a → Passes (checks o q)
    → OfRequest (λ g r b. ZeroBound r → IsRefused b ↔ (Feasible g r → ⊥)) o q a
zero_refused o (quoting work path r) a h n = λ zero.
    exactly o work path r [] n zero a (past (Grant (seen o r) r) (checks o (quoting work path r)) (search_rules (seen o r) r) a n h)
zero_refused o (admitting work path c r) a h n = λ zero.
    exactly o work path r (number_rules o c) n zero a (past (Grant (seen o r) r) (checks o (admitting work path c r)) (search_rules (seen o r) r) a n h)
zero_refused o (releasing c) a h n = tt
zero_refused o (admitting_jobs work jobs answers) a h n = tt

-- ---- a grant's delay
pub delay_granted : (o : Books) (q : Call ℕ) (a : ReplyTo q) → Says o q a
    → AtRequest (λ o r b. (g : PathGrant) → b ≡ grants g → g.delay ≡ path_delay o.table g.path) o q a
delay_granted o (quoting work path r) a h = λ g e.
    granted_delay o r g (subst (Answered (Grant (seen o r) r) (rules o (quoting work path r))) e h).1
delay_granted o (admitting work path c r) a h = λ g e.
    granted_delay o r g (subst (Answered (Grant (seen o r) r) (rules o (admitting work path c r))) e h).1
delay_granted o (releasing c) a h = tt
delay_granted o (admitting_jobs work jobs answers) a h = tt

-- ---- granted paths
-- by the rules of a request, whatever rules follow
paths_past : (o : Books) (work path : ℕ) (r : Request) (rs : List Rule) (a : PathReply)
    → Answered (Grant (seen o r) r) (request_rules o work path r ++ rs) a
    → PathsGranted (seen o r) r a
paths_past o work path r rs a h b e =
    let on = subst (Answered (Grant (seen o r) r) (request_rules o work path r ++ rs)) e h in
    granted_path o work path r rs on.0 b on.1

pub paths_granted : (o : Books) (q : Call ℕ) (a : ReplyTo q) → Says o q a → OfRequest PathsGranted o q a
paths_granted o (quoting work path r) a h = paths_past o work path r (search_rules (seen o r) r) a h
paths_granted o (admitting work path c r) a h = paths_past o work path r (number_rules o c ++ search_rules (seen o r) r) a h
paths_granted o (releasing c) a h = tt
paths_granted o (admitting_jobs work jobs answers) a h = tt

-- the same of an area, where 5 is the first rule
pub paths_past_five : (w : List ℕ) (work path : ℕ) (r : Request) (rs : List Rule) (a : PathReply)
    → Answered (Grant (net_for w r) r) (quote_rules w work path r ++ rs) a
    → PathsGranted (net_for w r) r a
paths_past_five w work path r rs a h b e =
    let on = subst (Answered (Grant (net_for w r) r) (quote_rules w work path r ++ rs)) e h in
    granted_path (books_in w) work path r rs on.0.1 b on.1

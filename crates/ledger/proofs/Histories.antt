-- A list of calls, by going from each call to the rest: the area's circuits stay the ledger's entries by rising number, so every
-- reply is what the ledger says at its place; and two areas with the same circuits stay so when quotes are struck.
-- Assumes nothing.
use Prim.Native.Nat.{ℕ}
use mathlib.Core.Path.{◌≡◌, refl, sym, ap, ap₂, ◌∙◌, subst}
use mathlib.Core.List.{List, [], ◌∷◌, ◌++◌}
use Rattle.area.specs.Books.{Books, books}
use Rattle.area.specs.Formed.{WellFormed}
use Rattle.ledger.specs.Entries.{Call, ReplyTo, Ledger}
use Rattle.ledger.specs.History.{Lending, measured, reply_to, area_after, given_to, given_by, Event, events, history, answers, area_at_end, after, at_end, Struck, end, strike, keep, remaining}
use Rattle.ledger.specs.Sentences.{AtEvery}
use Rattle.ledger.proofs.Given.{given_is}
use Rattle.ledger.proofs.Steps.{Says, keeps}
use Rattle.ledger.proofs.Follows.{Follows, call_said, call_follows}
use Rattle.ledger.proofs.Alike.{Alike, reply_alike, next_alike}

-- ---- events one after another
end_append : (l : Ledger) (es fs : List Event) → at_end l (es ++ fs) ≡ at_end (at_end l es) fs
end_append l [] fs = refl
end_append l (e ∷ es) fs = end_append (after l e) es fs

every_append : (P : Books → (q : Call ℕ) → ReplyTo q → Type 0) (l : Ledger) (es fs : List Event)
    → AtEvery P l es → AtEvery P (at_end l es) fs
    → AtEvery P l (es ++ fs)
every_append P l [] fs h k = k
every_append P l (e ∷ es) fs h k = (h.0, every_append P (after l e) es fs h.1 k)

-- ---- the ledger beside the area
pub followed : (w : List ℕ) (l : Ledger) → WellFormed w → Follows w l → (cs : List Lending) → AtEvery Says l (history w cs)
followed w l formed follows [] = tt
followed w l formed follows (c ∷ cs) =
    every_append Says l (events w (measured c)) (history (area_after w (measured c)) cs) (call_said w l formed follows (measured c))
    (followed (area_after w (measured c)) _ (keeps w formed (measured c)) (call_follows w l formed follows (measured c)) cs)

pub ends_follow : (w : List ℕ) (l : Ledger) → WellFormed w → Follows w l → (cs : List Lending)
    → Follows (area_at_end w cs) (at_end l (history w cs))
ends_follow w l formed follows [] = follows
ends_follow w l formed follows (c ∷ cs) =
    rw (end_append l (events w (measured c)) (history (area_after w (measured c)) cs))
    (ends_follow (area_after w (measured c)) _ (keeps w formed (measured c)) (call_follows w l formed follows (measured c)) cs)

-- what follows from the ledger's word at one place holds at every place
pub at_every : (P : Books → (q : Call ℕ) → ReplyTo q → Type 0) → ((o : Books) (q : Call ℕ) (a : ReplyTo q) → Says o q a → P o q a)
    → (l : Ledger) (es : List Event) → AtEvery Says l es
    → AtEvery P l es
at_every P one l [] h = tt
at_every P one l (e ∷ es) h = (one (books l) e.call e.reply h.0, at_every P one (after l e) es h.1)

-- ---- quotes struck
module _ (w v : List ℕ) (t : Alike w v) (c d : Lending) (same : measured c ≡ measured d) where
  -- a call that remains has the same reply, and so gives the same
  given_alike : given_to v d ≡ given_to w c
  given_alike =
      given_is v d
      ∙ ap (given_by (measured d)) (sym (reply_alike w v t (measured d)))
      ∙ ap (λ (q : Call ℕ). given_by q (reply_to w q)) (sym same)
      ∙ sym (given_is w c)

  -- and it leaves the areas so
  after_alike : Alike (area_after w (measured c)) (area_after v (measured d))
  after_alike = subst (λ (q : Call ℕ). Alike (area_after w (measured c)) (area_after v q)) same (next_alike w v t (measured c))

pub struck_answers : (w v : List ℕ) → Alike w v → {cs ds : List Lending} (s : Struck cs ds) → answers v ds ≡ remaining s (answers w cs)
struck_answers w v t end = refl
struck_answers w v t (strike s) = struck_answers w v t s
struck_answers w v t (keep {c = c} {d = d} same s) =
    ap₂ ◌∷◌ (given_alike w v t c d same)
    (struck_answers (area_after w (measured c)) (area_after v (measured d)) (after_alike w v t c d same) s)

pub struck_ends : (w v : List ℕ) → Alike w v → {cs ds : List Lending} (s : Struck cs ds) → Alike (area_at_end w cs) (area_at_end v ds)
struck_ends w v t end = t
struck_ends w v t (strike s) = struck_ends w v t s
struck_ends w v t (keep {c = c} {d = d} same s) =
    struck_ends (area_after w (measured c)) (area_after v (measured d)) (after_alike w v t c d same) s

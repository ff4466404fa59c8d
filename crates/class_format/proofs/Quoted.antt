-- The line of a class: that of the class call's refusal, or of its quote's reply.
-- Assumes nothing.
use mathlib.Core.Path.{◌≡◌, refl, sym, ap, ◌∙◌}
use mathlib.Core.List.{List, [], ◌∷◌}
use Prim.Native.Nat.{ℕ}
use Rattle.network.specs.Limits.{path_words, work_words}
use Rattle.network.specs.declared.Request.{Request}
use Rattle.network.specs.Reduce.{problem_number}
use Rattle.area.specs.Refusals.{refuses, grants}
use Rattle.network.specs.declared.Terms.{Terms}
use Rattle.rules.specs.Classes.{class_answer}
use Rattle.rules.specs.Replies.{PathGrant}
use Rattle.rules.specs.Calls.{quote}
use Rattle.class_format.specs.Lines.{line, reply_line, request_of, quote_line, answered_line, class_line}

-- ---- a quote's reply
quote_line_lem : (area : List ℕ) (n k : ℕ) (s : Terms) → quote_line area n k s ≡ reply_line k (quote area work_words path_words (request_of n s))
unfolding quote_line
quote_line_lem area n k s = refl

-- the lengths that the code lends
pub line_of_quote : (area : List ℕ) (n k work path : ℕ) (s : Terms) (r : Request) → work ≡ work_words → path ≡ path_words → r ≡ request_of n s
    → quote_line area n k s ≡ reply_line k (quote area work path r)
line_of_quote area n k work path s r w l e = quote_line_lem area n k s ∙ rw (w, l, e)

pub refuses_line : (k number : ℕ) → reply_line k (refuses number) ≡ line k (0 ∷ number ∷ [])
unfolding reply_line
refuses_line k number = refl

pub grants_line : (k : ℕ) (b : PathGrant) → reply_line k (grants b) ≡ line k (problem_number b.problem ∷ b.delay ∷ b.cost ∷ b.path)
unfolding reply_line
grants_line k b = refl

-- ---- a class of a table
module _ (rows area : List ℕ) (n k : ℕ) where
  class_line_lem : class_line rows area n k ≡ answered_line area n k (class_answer rows k)
  unfolding class_line
  class_line_lem = refl

  refused_row : (j : ℕ) → answered_line area n k (refuses j) ≡ reply_line k (refuses j)
  unfolding answered_line
  refused_row j = refl

  asked_row : (s : Terms) → answered_line area n k (grants s) ≡ quote_line area n k s
  unfolding answered_line
  asked_row s = refl

  pub class_refused : (j : ℕ) → refuses j ≡ class_answer rows k → class_line rows area n k ≡ line k (0 ∷ j ∷ [])
  class_refused j e = class_line_lem ∙ ap (answered_line area n k) (sym e) ∙ refused_row j ∙ refuses_line k j

  pub class_row : (s : Terms) → grants s ≡ class_answer rows k → class_line rows area n k ≡ quote_line area n k s
  class_row s e = class_line_lem ∙ ap (answered_line area n k) (sym e) ∙ asked_row s

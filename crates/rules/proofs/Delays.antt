-- What hold times do to the calls: the delay that a grant answers is its path's own, its links' delays and the hold times of its
-- inner nodes; and where no node holds anything, every call replies as it does by the links' own delays.
-- Assumes nothing.
use Prim.Native.Nat.{ℕ}
use mathlib.Core.Path.{◌≡◌, ap, ◌∙◌}
use mathlib.Core.List.{List}
use Rattle.network.specs.Lists.{All}
use Rattle.network.specs.Net.{Net}
use Rattle.network.specs.declared.Request.{Request}
use Rattle.search.specs.Result.{outcome}
use Rattle.area.specs.Station.{station, table_in}
use Rattle.area.specs.Books.{Books, books, path_delay, net, net_unheld}
use Rattle.area.specs.Refusals.{refuses}
use Rattle.area.specs.Checks.{checked}
use Rattle.area.proofs.Holds.{delay_of_path, net_same}
use Rattle.rules.specs.Replies.{PathGrant, PathReply, reply_of}
use Rattle.rules.specs.Allowed.{Grant}
use Rattle.rules.specs.Calls.{searched, quote_checks, admit_checks, quote, admission}
use Rattle.rules.specs.Meaning.{books_in}
use Rattle.rules.proofs.Bookings.{grant_path}

-- a table without hold times
abbrev pub NoneHeld : List ℕ → Type 0
NoneHeld hold_times = All (λ h. h ≡ 0) hold_times

module _ (o : Books) (r : Request) where
  pub granted_delay : (a : PathGrant) → Grant (net o r) r a → a.delay ≡ path_delay o.table a.path
  granted_delay a h = h.delay ∙ delay_of_path o r r.source a.path (grant_path h)

  -- what a search replies by the links' own delays
  abbrev pub unheld_reply : PathReply
  unheld_reply = reply_of (net_unheld o r) (outcome (net_unheld o r) r)

  pub searched_unheld : NoneHeld o.table.hold_times → searched o r ≡ unheld_reply
  unfolding searched
  searched_unheld none = ap (λ (g : Net). reply_of g (outcome g r)) (net_same o r none)

module _ (w : List ℕ) (none : NoneHeld (table_in w).hold_times) (work path : ℕ) (r : Request) where
  searched_same : searched (books_in w) r ≡ unheld_reply (books_in w) r
  unfolding books station
  searched_same = searched_unheld (books_in w) r none

  pub quote_unheld : quote w work path r ≡ checked refuses (quote_checks w work path r) (unheld_reply (books_in w) r)
  unfolding quote
  quote_unheld = ap (checked refuses (quote_checks w work path r)) searched_same

  pub admission_unheld : (c : ℕ) → admission w work path c r ≡ checked refuses (admit_checks w work path c r) (unheld_reply (books_in w) r)
  unfolding admission
  admission_unheld c = ap (checked refuses (admit_checks w work path c r)) searched_same

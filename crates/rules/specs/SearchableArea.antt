-- What the search on a well-formed area relies on besides: the calls have passed their checks.
-- Assumes nothing.
use Rattle.std.specs.Prelude.{ℕ, ◌≤◌, ◌≡◌, true, List, length}
use Rattle.network.specs.Limits.{path_words, work_words}
use Rattle.network.specs.declared.Request.{Request}
use Rattle.area.specs.Station.{nodes_in}
use Rattle.rules.specs.Requests.{request_fits}

pub record SearchableArea (w work path : List ℕ) (r : Request) : Type 0 where
  pub memory : work_words ≤ length work
  pub buffer : path_words ≤ length path
  pub request : request_fits (nodes_in w) r ≡ true

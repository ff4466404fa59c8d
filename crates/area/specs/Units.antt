-- Free units as the check of an area counts them: a path's units are taken from those of its links, link by link.
-- Assumes nothing.
use Rattle.std.specs.Prelude.{ℕ, ◌-◌, Bool, true, ◌&&◌, List, [], ◌∷◌, leb, get_or, set}

-- link i has u units less
abbrev pub less : ℕ → ℕ → List ℕ → List ℕ
less u i free = set free i (get_or free i 0 - u)

-- every link of the path, in its turn, has the units free
unfoldable pub enough : ℕ → List ℕ → List ℕ → Bool
enough u [] free = true
enough u (i ∷ p) free = leb u (get_or free i 0) && enough u p (less u i free)

-- the free units when the path's are taken
unfoldable pub taken : ℕ → List ℕ → List ℕ → List ℕ
taken u [] free = free
taken u (i ∷ p) free = taken u p (less u i free)

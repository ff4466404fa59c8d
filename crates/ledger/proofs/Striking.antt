-- Any quotes of a list may be struck: whichever are chosen, the rest is the list with quotes struck; the calls that remain may be
-- lent other words; and where none is struck, every call and its answer remain.
-- Assumes nothing.
use Prim.Native.Nat.{ℕ}
use mathlib.Core.Path.{◌≡◌, refl, ap, ap₂}
use mathlib.Core.Bool.{Bool, true, false}
use mathlib.Core.List.{List, [], ◌∷◌}
use lib.ListN.{length}
use Rattle.network.specs.declared.Request.{Request}
use Rattle.ledger.specs.Entries.{quoting, admitting, releasing, admitting_jobs}
use Rattle.ledger.specs.History.{Lending, measured, area_after, Given, given_to, answers, Struck, end, strike, keep, remaining}

-- the calls of a list without the quotes that were chosen, one choice for each call; past the choices all remain
abbrev chosen : List Bool → List Lending → List Lending
chosen choices [] = []
chosen [] (c ∷ cs) = c ∷ chosen [] cs
chosen (true ∷ choices) (quoting work path r ∷ cs) = chosen choices cs
chosen (false ∷ choices) (quoting work path r ∷ cs) = quoting work path r ∷ chosen choices cs
chosen (b ∷ choices) (admitting work path c r ∷ cs) = admitting work path c r ∷ chosen choices cs
chosen (b ∷ choices) (releasing c ∷ cs) = releasing c ∷ chosen choices cs
chosen (b ∷ choices) (admitting_jobs work jobs l ∷ cs) = admitting_jobs work jobs l ∷ chosen choices cs

pub any_quotes : (choices : List Bool) (cs : List Lending) → Struck cs (chosen choices cs)
any_quotes choices [] = end
any_quotes [] (c ∷ cs) = keep refl (any_quotes [] cs)
any_quotes (true ∷ choices) (quoting work path r ∷ cs) = strike (any_quotes choices cs)
any_quotes (false ∷ choices) (quoting work path r ∷ cs) = keep refl (any_quotes choices cs)
any_quotes (b ∷ choices) (admitting work path c r ∷ cs) = keep refl (any_quotes choices cs)
any_quotes (b ∷ choices) (releasing c ∷ cs) = keep refl (any_quotes choices cs)
any_quotes (b ∷ choices) (admitting_jobs work jobs l ∷ cs) = keep refl (any_quotes choices cs)

-- a call that remains may be lent other words: only how many they are is the same
pub other_words : (work work' path path' : List ℕ) → length work ≡ length work' → length path ≡ length path'
    → ((r : Request) → measured (quoting work path r) ≡ measured (quoting work' path' r))
    × ((c : ℕ) (r : Request) → measured (admitting work path c r) ≡ measured (admitting work' path' c r))
    × ((jobs : List ℕ) → measured (admitting_jobs work jobs path) ≡ measured (admitting_jobs work' jobs path'))
other_words work work' path path' same same' = (
  λ r. ap₂ (λ (n l : ℕ). quoting n l r) same same',
  λ c r. ap₂ (λ (n l : ℕ). admitting n l c r) same same',
  λ jobs. ap₂ (λ (n l : ℕ). admitting_jobs n jobs l) same same',
)

-- and no fewer and no more: of two calls that are one to the ledger each buffer has the same length
pub as_many_words : (work work' path path' : List ℕ)
    → ((r : Request) → measured (quoting work path r) ≡ measured (quoting work' path' r) → (length work ≡ length work') × (length path ≡ length path'))
    × ((c : ℕ) (r : Request) → measured (admitting work path c r) ≡ measured (admitting work' path' c r) → (length work ≡ length work') × (length path ≡ length path'))
    × ((jobs : List ℕ) → measured (admitting_jobs work jobs path) ≡ measured (admitting_jobs work' jobs path') → (length work ≡ length work') × (length path ≡ length path'))
as_many_words work work' path path' = (
  λ r e. (cc, cc),
  λ c r e. (cc, cc),
  λ jobs e. (cc, cc),
)

-- no quote struck
pub none_struck : (cs : List Lending) → Struck cs cs
none_struck [] = end
none_struck (c ∷ cs) = keep refl (none_struck cs)

pub all_remain : (w : List ℕ) (cs : List Lending) → remaining (none_struck cs) (answers w cs) ≡ answers w cs
unfolding none_struck
all_remain w [] = refl
all_remain w (c ∷ cs) = ap (λ (l : List Given). given_to w c ∷ l) (all_remain (area_after w (measured c)) cs)

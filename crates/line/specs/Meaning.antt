-- What a C function's code, answer array and lent words mean: there is an answer of the call whose code and words they
-- are, and it means what the call's own contract says.
-- Assumes nothing.
use Rattle.std.specs.Prelude.{ℕ, ◌≡◌, List}
use Rattle.network.specs.declared.Request.{Request}
use Rattle.area.specs.Refusals.{Reply}
use Rattle.area.specs.Reads.{ListMeans}
use Rattle.rules.specs.Meaning.{QuoteMeans, AdmissionMeans, ReleaseMeans}
use Rattle.rules.specs.AdmitJobs.{JobsMean}
use Rattle.rules.specs.Classes.{CheckMeans, ClassMeans}
use Rattle.line.specs.Codes.{code, words_after, grant_words, value_words, terms_words}

-- The code k tells an answer of which P holds; and with the answer array, v before and v' after, one whose granted words, if it
-- grants, stand there.
pub record Tells {A : Type 0} (P : Reply A → Type 0) (k : ℕ) : Type 0 where
  pub answer : Reply A
  pub means : P answer
  pub is : k ≡ code answer

pub record TellsWords {A : Type 0} (words : A → List ℕ) (P : Reply A → Type 0) (k : ℕ) (v v' : List ℕ) : Type 0 where
  pub answer : Reply A
  pub means : P answer
  pub is : k ≡ code answer
  pub array : v' ≡ words_after words answer v

-- the calls: w, l and v are the area, the path buffer, answer buffer or list and the answer array before, w', l' and v' after
abbrev pub QuoteTells : List ℕ → ℕ → List ℕ → List ℕ → Request → ℕ → List ℕ → List ℕ → Type 0
QuoteTells w work l v r k l' v' = TellsWords grant_words (λ said. QuoteMeans w work l r said l') k v v'

abbrev pub AdmissionTells : List ℕ → ℕ → List ℕ → List ℕ → ℕ → Request → ℕ → List ℕ → List ℕ → List ℕ → Type 0
AdmissionTells w work l v c r k l' v' w' = TellsWords grant_words (λ said. AdmissionMeans w work l c r said l' w') k v v'

abbrev pub ReleaseTells : List ℕ → ℕ → ℕ → List ℕ → Type 0
ReleaseTells w c k w' = Tells (λ said. ReleaseMeans w c said w') k

-- all jobs in one call, with the job list `words` and the answer buffer l
abbrev pub JobsTell : List ℕ → ℕ → List ℕ → List ℕ → List ℕ → ℕ → List ℕ → List ℕ → List ℕ → Type 0
JobsTell w work words l v k l' v' w' = TellsWords value_words (λ said. JobsMean w work words l said l' w') k v v'

abbrev pub ListTells : List ℕ → List ℕ → List ℕ → ℕ → List ℕ → List ℕ → Type 0
ListTells w l v k l' v' = TellsWords value_words (λ said. ListMeans w l said l') k v v'

-- the calls on a class table, whose words they only read
abbrev pub CheckTells : List ℕ → ℕ → Type 0
CheckTells rows k = Tells (CheckMeans rows) k

abbrev pub ClassTells : List ℕ → ℕ → List ℕ → ℕ → List ℕ → Type 0
ClassTells rows c v k v' = TellsWords terms_words (ClassMeans rows c) k v v'

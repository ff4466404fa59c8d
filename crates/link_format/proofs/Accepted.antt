-- An accepted file: what the checks have said of it, and the words that then stand in the table.
-- Assumes nothing.
use mathlib.Core.Path.{◌≡◌, refl, sym, ap}
use mathlib.Core.Bool.{true}
use mathlib.Core.List.{List, [], ◌++◌}
use Prim.Native.Nat.{ℕ, ◌+◌, ◌*◌, ◌≤◌}
use borrow.Author.Tests.{le-leb, leb-true, eqb-true}
use lib.Dec.{leb}
use lib.ListN.{length, drop}
use Rattle.network.specs.Limits.{link_words, most_links}
use Rattle.network.proofs.Listed.{from_length}
use Rattle.network.proofs.Tests.{fst_of, snd_of, zero_one}
use Rattle.area.specs.Refusals.{Reply, refuses, grants}
use Rattle.area.specs.Checks.{first_failing}
use Rattle.area.proofs.Checks.{each_passes, all_pass}
use Rattle.link_format.specs.declared.Size.{Size}
use Rattle.link_format.specs.Reading.{signed, fills, offset_in, links_in, nodes_in, record_words, read_checks, read_answer, table_read}
use Rattle.link_format.proofs.ReadCases.{filled}

pub records_length : (f : List ℕ) → length (record_words f) ≡ link_words * links_in f
unfolding record_words
records_length f = from_length _ 0 (link_words * links_in f)

pub record Accepted (f : List ℕ) (table : ℕ) : Type 0 where
  pub trailer : signed f ≡ true
  pub few : links_in f ≤ most_links
  pub whole : offset_in f + 20 * links_in f + 16 ≡ length f
  pub enough : link_words * links_in f ≤ table

abbrev size_of : Reply Size → Size
size_of (refuses k) = record { nodes = 0; links = 0 }
size_of (grants s) = s

module _ (f : List ℕ) (table : ℕ) where
  pub accepts : Accepted f table → read_answer f table ≡ grants (record { nodes = nodes_in f; links = links_in f })
  unfolding read_answer
  accepts a = simp (a.trailer, filled f [] a.trailer a.few a.whole, le-leb (link_words * links_in f) table a.enough)

  checks_said : first_failing (read_checks f table) ≡ 0 → Accepted f table
  unfolding fills
  checks_said ok =
      let each = each_passes (read_checks f table) refl ok in
      record {
        trailer = each.0;
        few = leb-true (links_in f) most_links (fst_of (leb (links_in f) most_links) _ each.1.0);
        whole = eqb-true (offset_in f + 20 * links_in f + 16) (length f) (snd_of (leb (links_in f) most_links) _ each.1.0);
        enough = leb-true (link_words * links_in f) table each.1.1.0;
      }

  module _ (s : Size) (e : read_answer f table ≡ grants s) where
    passed : (first_failing (read_checks f table) ≡ 0) × (grants (record { nodes = nodes_in f; links = links_in f }) ≡ grants s)
    unfolding read_answer
    passed = all_pass refuses (read_checks f table) _ (grants s) (λ k clash. zero_one cc) e

    pub read_accepted : Accepted f table
    read_accepted = checks_said passed.0

    -- the answer is the trailer's n and m
    pub size_read : s ≡ record { nodes = nodes_in f; links = links_in f }
    size_read = sym (ap size_of passed.1)

-- the records' words stand in front, and the words past them keep theirs
pub table_accepted : (f t : List ℕ) (s : Size) → read_answer f (length t) ≡ grants s → table_read f t ≡ record_words f ++ drop (link_words * links_in f) t
unfolding table_read
table_accepted f t s e = rw (passed f (length t) s e).0 refl

-- What the program prints, case by case.
-- Assumes nothing.
use mathlib.Core.Path.{◌≡◌, refl, sym, ap, ◌∙◌}
use mathlib.Core.List.{List, ◌++◌}
use Prim.Native.Nat.{ℕ, min, ◌*◌, ◌≤◌, ◌<◌}
use native.Mathlib.Omega.{arith}
use borrow.Author.Tests.{le-leb, lt-leb}
use lib.ListN.{length, take, drop, length-append}
use lib.Seq.{take_at}
use Rattle.std.proofs.Math.ListN.{replicate}
use Rattle.std.proofs.lemmas.List.{take_min}
use Rattle.network.specs.Limits.{link_words, most_nodes}
use Rattle.area.specs.Refusals.{refuses, grants}
use Rattle.area.specs.Layout.{table_words}
use Rattle.area.specs.Station.{Station}
use Rattle.area.specs.Load.{input_of, load_answer, area_loaded}
use Rattle.area.proofs.Loads.{accepted_station, accepted_formed}
use Rattle.link_format.specs.declared.Size.{Size}
use Rattle.link_format.specs.Reading.{read_answer, record_words, table_read, links_in}
use Rattle.link_format.proofs.Accepted.{records_length, size_read, table_accepted}
use Rattle.rules.specs.SampleClasses.{sample}
use Rattle.class_format.specs.Lines.{lines}
use Rattle.class_format.specs.Output.{file_word, load_word, file_long, refusal, blank, unheld, loading_output, load_output, reading_output, file_output, output}

-- ---- what a load prints
-- the program cuts as many hold times as it has, where n is greater
cut_holds : (n count : ℕ) → count ≡ min n most_nodes → take count (replicate most_nodes 0) ≡ take n (replicate {A = ℕ} most_nodes 0)
cut_holds n count e = rw e (take_min n (replicate {A = ℕ} most_nodes 0))

module _ (n : ℕ) (links : List ℕ) where
  -- what the program loads, with the hold times as it cuts them
  pub as_cut : (count : ℕ) → count ≡ min n most_nodes → input_of n links (take count (replicate most_nodes 0)) ≡ unheld n links
  as_cut count e = ap (input_of n links) (cut_holds n count e)

  load_prints : load_output n links ≡ loading_output (area_loaded blank (unheld n links)) n (load_answer blank (unheld n links))
  unfolding load_output
  load_prints = refl

  refused_prints : (area : List ℕ) (k : ℕ) → loading_output area n (refuses k) ≡ refusal load_word k
  unfolding loading_output
  refused_prints area k = refl

  loaded_prints : (area : List ℕ) → loading_output area n (grants tt) ≡ lines sample area n
  unfolding loading_output
  loaded_prints area = refl

  pub load_refused : (k : ℕ) → refuses k ≡ load_answer blank (unheld n links) → load_output n links ≡ refusal load_word k
  load_refused k e = load_prints ∙ ap (loading_output (area_loaded blank (unheld n links)) n) (sym e) ∙ refused_prints (area_loaded blank (unheld n links)) k

  -- by the area and the table that the code lends
  pub load_accepted : (area rows : List ℕ) → (grants tt) ≡ load_answer blank (unheld n links) → area ≡ area_loaded blank (unheld n links) → rows ≡ sample
      → load_output n links ≡ lines rows area n
  load_accepted area rows e loaded is =
      rw (loaded, is)
      (load_prints ∙ ap (loading_output (area_loaded blank (unheld n links)) n) (sym e) ∙ loaded_prints (area_loaded blank (unheld n links)))

  -- an area is loaded only with two nodes or more
  pub some_nodes : (grants tt) ≡ load_answer blank (unheld n links) → 1 ≤ n
  some_nodes e =
      let formed = accepted_formed blank (unheld n links) (sym e) in
      omega (arith, formed.sound.table.«nodes_least», ap (λ (s : Station). s.table.nodes) (accepted_station blank (unheld n links) (sym e)))

-- ---- what a file prints
module _ (f : List ℕ) where
  file_prints : file_output f ≡ reading_output (record_words f) (read_answer f table_words)
  unfolding file_output
  file_prints = refl

  unread_prints : (links : List ℕ) (k : ℕ) → reading_output links (refuses k) ≡ refusal file_word k
  unfolding reading_output
  unread_prints links k = refl

  read_prints : (links : List ℕ) (s : Size) → reading_output links (grants s) ≡ load_output s.nodes links
  unfolding reading_output
  read_prints links s = refl

  pub file_refused : (k : ℕ) → refuses k ≡ read_answer f table_words → file_output f ≡ refusal file_word k
  file_refused k e = file_prints ∙ ap (reading_output (record_words f)) (sym e) ∙ unread_prints (record_words f) k

  pub file_read : (s : Size) → grants s ≡ read_answer f table_words → file_output f ≡ load_output s.nodes (record_words f)
  file_read s e = file_prints ∙ ap (reading_output (record_words f)) (sym e) ∙ read_prints (record_words f) s

  -- the first words of the table after are the records'
  module _ (s : Size) (t after : List ℕ) (e : grants s ≡ read_answer f (length t)) (stored : after ≡ table_read f t) where
    links_are : s.links ≡ links_in f
    links_are = ap (λ (z : Size). z.links) (size_read f (length t) s (sym e))

    records_then : after ≡ record_words f ++ drop (link_words * links_in f) t
    records_then = stored ∙ table_accepted f t s (sym e)

    pub table_front : take (link_words * s.links) after ≡ record_words f
    table_front = ap (take (link_words * s.links)) records_then ∙ take_at (record_words f) _ (link_words * s.links) (omega (arith, records_length f, links_are))

    pub table_fits_lem : link_words * s.links ≤ length after
    table_fits_lem = omega (arith, simp length-append at (ap length records_then), records_length f, links_are)

-- ---- the whole output
-- by the length of the input
pub long_file : (f : List ℕ) → 65536 < length f → output f ≡ file_long
unfolding output
long_file f h = rw (lt-leb (length f) 65536 h)

pub taken : (f : List ℕ) → length f ≤ 65536 → output f ≡ file_output f
unfolding output
taken f h = rw (le-leb (length f) 65536 h)

-- The class program loads hold times of 0, so every quote of it is the one by the links' own delays: what it prints for a file is
-- what it printed before there were hold times.
-- Assumes nothing.
use Prim.Native.Nat.{ℕ, zero, suc}
use mathlib.Core.Path.{◌≡◌, refl, sym, ap, subst}
use mathlib.Core.List.{List}
use lib.ListN.{take}
use Rattle.std.proofs.Math.ListN.{replicate}
use Rattle.network.specs.Limits.{most_nodes, path_words, work_words}
use Rattle.network.specs.declared.Request.{Request}
use Rattle.area.specs.Station.{Station, table_in, station}
use Rattle.area.specs.Refusals.{refuses, grants}
use Rattle.area.specs.Checks.{checked}
use Rattle.area.specs.Load.{load_answer, area_loaded}
use Rattle.area.proofs.Loads.{accepted_station}
use Rattle.rules.specs.Calls.{quote, quote_checks}
use Rattle.rules.specs.Meaning.{books_in}
use Rattle.rules.proofs.Delays.{NoneHeld, unheld_reply, quote_unheld}
use Rattle.class_format.specs.Output.{blank, unheld}

-- zeros, and as many of them as are taken
zeros_taken : (n k : ℕ) → NoneHeld (take n (replicate k 0))
zeros_taken zero k = tt
zeros_taken (suc n) zero = tt
zeros_taken (suc n) (suc k) = (refl, zeros_taken n k)

module _ (n : ℕ) (links : List ℕ) (accepted : load_answer blank (unheld n links) ≡ grants tt) where
  abbrev area : List ℕ
  area = area_loaded blank (unheld n links)

  none_held : NoneHeld (table_in area).hold_times
  unfolding station
  none_held =
      subst NoneHeld (sym (ap (λ (s : Station). s.table.hold_times) (accepted_station blank (unheld n links) accepted))) (zeros_taken n most_nodes)

  pub quotes_unheld : (r : Request) → quote area work_words path_words r
      ≡ checked refuses (quote_checks area work_words path_words r) (unheld_reply (books_in area) r)
  quotes_unheld r = quote_unheld area none_held work_words path_words r

-- The definitions give document 01's lines for its replies.
-- Assumes nothing.
use mathlib.Core.Path.{◌≡◌, refl}
use mathlib.Core.List.{map}
use Rattle.class_format.specs.Lines.{reply_line}
use Rattle.class_format.specs.DocumentLines.{Sample, samples}

pub sample_lines : map (λ (s : Sample). reply_line s.class s.reply) samples ≡ map (λ (s : Sample). s.bytes) samples
unfolding reply_line
sample_lines = refl

-- The first words of the table are the records.
use Rattle.std.proofs.Common.{◌∙◌, sym, ap}
use Rattle.std.proofs.Math.Seq.{length-take-le}
use Rattle.class_format.specs.Output.{load_output}
use Rattle.class_format.proofs.Reported.{file_read, table_front, table_fits_lem}
use Rattle.class_quotes.proofs.report.read.Goals as goal

pub slice_bounds-table-end : goal.slice_bounds-table-end
slice_bounds-table-end c = table_fits_lem c.args.file.now _ _ _ c.in-Ok.ensures.answer c.in-Ok.ensures.table

pub slice_bounds-quotes-end : goal.slice_bounds-quotes-end
slice_bounds-quotes-end c = sym (length-take-le _ _ (table_fits_lem c.args.file.now _ _ _ c.in-Ok.ensures.answer c.in-Ok.ensures.table))

pub returns-in-Ok : goal.returns-in-Ok
returns-in-Ok c =
    let said = c.in-Ok.ensures.answer in
    c.quotes.ensures
    ∙ sym (file_read c.args.file.now _ said ∙ ap (load_output _) (sym (table_front c.args.file.now _ _ _ said c.in-Ok.ensures.table)))

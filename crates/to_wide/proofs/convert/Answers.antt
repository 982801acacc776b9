-- `to_wide::convert` meets its contract: the parts that are handed on hold the bytes that were read.
use Rattle.std.proofs.Common.{refl, sym, arith}
use Rattle.sheet.proofs.ToldLaws.{fault_not-0}
use Rattle.to_wide.proofs.ConvertedLaws.{converts-same, script_begins, text_wide, text_refused, text_read}
use Rattle.to_wide.proofs.convert.Goals as goal

pub convert_sheet-requires : goal.convert_sheet-requires
convert_sheet-requires c =
    (c.requires.0, c.requires.1, omega (arith, c.in-Ok.ensures.script-fits, (script_begins c.in-Ok.ensures (omega arith) (omega arith)).counted))

pub returns-in-Narrow : goal.returns-in-Narrow
returns-in-Narrow c = converts-same _ _ _ (text_read c.in-Ok.ensures (omega arith) (omega arith) c.in-Narrow.is refl) c.convert_sheet.ensures

pub returns-in-Wide : goal.returns-in-Wide
returns-in-Wide c = rw (c.from.ensures.0, c.from.ensures.1) (sym (text_wide c.in-Ok.ensures (omega arith) (omega arith) c.in-Wide.is), omega arith)

pub returns-in-Narrow-form : goal.returns-in-Narrow-form
returns-in-Narrow-form c =
    rw (c.from-in-Narrow-form.ensures.0, c.from-in-Narrow-form.ensures.1)
    (sym (text_refused c.in-Err.ensures (omega arith) (omega arith) c.in-Narrow-form.is (fault_not-0 _)), omega arith)

pub returns-in-Wide-form : goal.returns-in-Wide-form
returns-in-Wide-form c =
    rw (c.from-in-Wide-form.ensures.0, c.from-in-Wide-form.ensures.1) (sym (text_wide c.in-Err.ensures (omega arith) (omega arith) c.in-Wide-form.is), omega arith)

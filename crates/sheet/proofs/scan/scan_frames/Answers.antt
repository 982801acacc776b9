-- `sheet::scan::scan_frames` meets its contract: each turn takes the reader one frame on, and what holds before the turn holds at the next frame.
use Rattle.std.proofs.Common.{◌≡◌, arith, ap, subst, ◌∙◌}
use Rattle.sheet.specs.Fields.{sheet_of}
use Rattle.sheet.specs.Pass.{Passed}
use Rattle.sheet.specs.declared.reader.Reader.{Reader}
use Rattle.sheet.proofs.ReaderLaws.{took_reads, took_number, took_here, took_kind, took_next, took_none}
use Rattle.sheet.proofs.AcceptedLaws.{none_sized}
use Rattle.sheet.proofs.PassLaws.{passed_none}
use Rattle.sheet.proofs.scan.scan_frames.Goals as goal

pub loop-frame-init : goal.loop-frame-init
loop-frame-init c =
    let z = none_sized (sheet_of c.args.form c.args.sheet.now) c.requires.0 in
    record {
      reads = cc;
      passed = passed_none _ _ _ _ z.most c.requires.1 (ap (λ (x : Reader). x.at) c.into_iter-frame-iterator.ensures.into_iter_gives ∙ c.new-frame-items.ensures.2) c.default-seen.ensures;
    }

pub visit-requires : goal.visit-requires
visit-requires c =
    let I = c.loop-frame.invariant in
    let n = took_number _ _ _ I.reads c.in-Some.ensures.steps in
    (rw n I.passed, took_here _ _ _ I.reads c.in-Some.ensures.steps, took_kind _ _ _ I.reads c.in-Some.ensures.steps)

pub loop-frame-preserved : goal.loop-frame-preserved
loop-frame-preserved c =
    let I = c.loop-frame.invariant in
    record {
      reads = took_reads _ _ _ I.reads c.in-Some.ensures.steps;
      passed = subst (Passed _ _ _) (took_next _ _ _ I.reads c.in-Some.ensures.steps) c.in_ok-seen.ensures;
    }

pub returns : goal.returns
returns c =
    let I = c.loop-frame.invariant in
    let e : c.loop-frame.frame-iterator.at ≡ _ = omega (arith, I.passed.within, took_none _ _ I.reads c.in-None.ensures.steps) in
    subst (Passed _ _ _) e I.passed

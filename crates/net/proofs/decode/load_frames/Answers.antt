-- `net::decode::load_frames` meets its contract: each turn takes the reader one frame on, and stores the frame that it gives.
use Rattle.std.proofs.Common.{◌≡◌, arith, ap, sym, subst, ◌∙◌}
use Rattle.sheet.specs.Fields.{sheet_of, kind}
use Rattle.sheet.specs.declared.reader.Reader.{Reader}
use Rattle.sheet.proofs.ReaderLaws.{took_reads, took_number, took_here, took_kind, took_next, took_none}
use Rattle.net.specs.Load.{Loading}
use Rattle.net.specs.LoadLaws.{loading_fit, loading_next}
use Rattle.net.proofs.decode.load_frames.Goals as goal

pub loop-frame-init : goal.loop-frame-init
loop-frame-init c =
    record {
      reads = cc;
      loading = subst (Loading (sheet_of c.args.form c.args.sheet.now) c.args.net.now) (sym (ap (λ (x : Reader). x.at) c.into_iter-frame-iterator.ensures.into_iter_gives ∙ c.new-frame-items.ensures.2)) c.requires;
    }

pub word_of-requires : goal.word_of-requires
word_of-requires c =
    let I = c.loop-frame.invariant in
    loading_fit I.loading (took_kind _ _ _ I.reads c.in-Some.ensures.steps ∙ ap (kind _) (took_number _ _ _ I.reads c.in-Some.ensures.steps))

pub loop-frame-preserved : goal.loop-frame-preserved
loop-frame-preserved c =
    let I = c.loop-frame.invariant in
    let n = took_number _ _ _ I.reads c.in-Some.ensures.steps in
    record {
      reads = took_reads _ _ _ I.reads c.in-Some.ensures.steps;
      loading = subst (Loading _ _) (took_next _ _ _ I.reads c.in-Some.ensures.steps)
          (loading_next c.word_of.result (subst (Loading _ _) (sym n) I.loading) (took_here _ _ _ I.reads c.in-Some.ensures.steps) (took_kind _ _ _ I.reads c.in-Some.ensures.steps)
          c.word_of.ensures c.mask_of.ensures c.put.ensures);
    }

pub returns : goal.returns
returns c =
    let I = c.loop-frame.invariant in
    let e : c.loop-frame.frame-iterator.at ≡ _ = omega (arith, I.loading.within, took_none _ _ I.reads c.in-None.ensures.steps) in
    subst (Loading _ _) e I.loading

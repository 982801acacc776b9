use Rattle.std.proofs.Common.{◌≡◌, ◌∙◌, suc, ◌+◌, ◌-◌, ◌*◌, ◌≤◌, length, arith, sym, add-one}
use Rattle.std.proofs.Math.Nat.{suc-mul}
use Rattle.std.proofs.lemmas.List.{take_rest}
use Rattle.std.proofs.lemmas.List.Edits.{sets}
use borrow.Rule.Slice.PartMut.{put_mid}
use Rattle.text.specs.Line.{bytes}
use Rattle.text.specs.LineStores.{record_within}
use Rattle.text.proofs.LineLaws.{bytes-length, lines_none, first-line, size_shape, size-within, other-lines, frames-put, some-told}
use Rattle.text.proofs.LineStores.{sets_part, part_length}
use Rattle.text.proofs.frame.put_frames.Goals as goal

pub put_bytes-requires : goal.put_bytes-requires
put_bytes-requires c =
    let e : c.args.count - c.loop-i.i ≡ suc (c.args.count - (c.loop-i.i + 1)) = omega arith in
    let to = c.loop-i.i * c.args.size in
    let h : to + c.args.size ≤ c.args.count * c.args.size = record_within c.args.size c.loop-i.i c.args.count c.loop-i-test.true in
    rw (part_length to c.args.size c.loop-i.out (omega arith)) (size_shape c.args.size _ (first-line c.args.size _ c.loop-i.rest.now (rw e at c.loop-i.invariant.0))).0

pub unwrap-bytes-requires : goal.unwrap-bytes-requires
unwrap-bytes-requires c =
    let e : c.args.count - c.loop-i.i ≡ suc (c.args.count - (c.loop-i.i + 1)) = omega arith in
    some-told _ (rw c.line_size.ensures.size (first-line c.args.size _ c.loop-i.rest.now (rw e at c.loop-i.invariant.0)))

pub slice_bounds-rest-count : goal.slice_bounds-rest-count
slice_bounds-rest-count c =
    omega (arith, rw c.unwrap-bytes.ensures at c.line_size.ensures.size, size-within c.args.size c.loop-i.rest.now)

pub slice_bounds-rest-start : goal.slice_bounds-rest-start
slice_bounds-rest-start c =
    omega (arith, rw c.unwrap-bytes.ensures at c.line_size.ensures.size, size-within c.args.size c.loop-i.rest.now)

pub loop-i-preserved : goal.loop-i-preserved
loop-i-preserved c =
    let n = c.args.count - (c.loop-i.i + 1) in
    let to = c.loop-i.i * c.args.size in
    let e : c.args.count - c.loop-i.i ≡ suc n = omega arith in
    let k = rw e at c.loop-i.invariant.0 in
    let s = rw c.unwrap-bytes.ensures at c.line_size.ensures.size in
    let y : (c.loop-i.i + 1) * c.args.size ≡ to + c.args.size = rw (add-one, suc-mul) in
    let h : to + c.args.size ≤ c.args.count * c.args.size = record_within c.args.size c.loop-i.i c.args.count c.loop-i-test.true in
    let b : to + c.args.size ≤ length c.loop-i.out = omega arith in
    let f = bytes c.args.size c.loop-i.rest.now in
    let p : put_mid to (to + c.args.size - to) c.loop-i.out c.put_bytes.new.out ≡ sets c.loop-i.out to f =
    rw (c.put_bytes.ensures, part_length to c.args.size c.loop-i.out b) (sets_part to c.args.size c.loop-i.out f (bytes-length c.args.size c.loop-i.rest.now) b) in
    rw take_rest (
      other-lines c.args.size c.loop-i.rest.now _ s n k,
      c.loop-i.invariant.1 ∙ rw (e, y, p) (frames-put c.args.size c.loop-i.rest.now _ s n k c.loop-i.out to),
    )

pub returns : goal.returns
returns c =
    let z : c.args.count - c.loop-i.i ≡ 0 = omega arith in sym (c.loop-i.invariant.1 ∙ rw (z, lines_none c.args.size))

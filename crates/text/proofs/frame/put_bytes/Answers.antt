use Rattle.std.proofs.Common.{◌≡◌, ◌∙◌, suc, ◌+◌, ◌-◌, ◌*◌, length, arith, sym}
use Rattle.std.proofs.lemmas.List.{take_rest}
use Rattle.text.specs.Line.{bytes}
use Rattle.text.proofs.LineLaws.{digits-within, digits-later, digits_two, bytes-length, bytes-put, bytes-none}
use Rattle.text.proofs.LineStores.{sets_whole}
use Rattle.text.proofs.frame.put_bytes.Goals as goal

pub loop-i-init : goal.loop-i-init
loop-i-init c = let z : length c.args.out.now - 0 ≡ length c.args.out.now = omega arith in rw z

pub slice_bounds-byte-count : goal.slice_bounds-byte-count
slice_bounds-byte-count c = omega (arith, digits-within (2 * length c.args.out.now) c.args.rest.now c.requires)

pub slice_bounds-byte-start : goal.slice_bounds-byte-start
slice_bounds-byte-start c = omega (arith, digits-within (2 * length c.args.out.now) c.args.rest.now c.requires)

pub byte-requires : goal.byte-requires
byte-requires c =
    let n = length c.args.out.now - (c.loop-i.i + 1) in
    let e : 2 * length c.args.out.now ≡ 2 * c.loop-i.i + suc (suc (2 * n)) = omega arith in
    rw take_rest (digits_two (2 * n) _ (digits-later (2 * c.loop-i.i) _ c.args.rest.now (rw e at c.requires))).0

pub loop-i-preserved : goal.loop-i-preserved
loop-i-preserved c =
    let n = length c.args.out.now - (c.loop-i.i + 1) in
    let e : length c.args.out.now - c.loop-i.i ≡ suc n = omega arith in
    c.loop-i.invariant ∙ rw e (bytes-put n c.loop-i.i c.args.rest.now c.loop-i.out _ (rw take_rest at c.byte.ensures))

pub returns : goal.returns
returns c =
    let n = length c.args.out.now in
    let z : n - c.loop-i.i ≡ 0 = omega arith in
    sym (sym (sets_whole (bytes n c.args.rest.now) c.args.out.now (bytes-length n c.args.rest.now)) ∙ c.loop-i.invariant ∙ rw (z, bytes-none))

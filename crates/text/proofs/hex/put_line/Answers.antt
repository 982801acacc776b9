use Rattle.std.proofs.Common.{◌≡◌, ◌∙◌, ℕ, ◌+◌, ◌*◌, List, length, arith, sym, ap}
use Rattle.std.proofs.Math.ListN.{drop_of_length-le}
use Rattle.std.proofs.lemmas.List.Edits.{sets}
use Rattle.text.specs.Hex.{hex_line}
use Rattle.text.proofs.LineStores.{sets_whole, line-length, line-put, line-end}
use Rattle.text.proofs.hex.put_line.Goals as goal

pub loop-i-preserved : goal.loop-i-preserved
loop-i-preserved c =
    let e : 2 * (c.loop-i.i + 1) ≡ 2 * c.loop-i.i + 2 = omega arith in
    c.loop-i.invariant ∙ rw (e, c.digit_byte.ensures, c.digit_byte-in-loop-i.ensures) (line-put c.args.bytes.now c.loop-i.i c.loop-i-test.true c.loop-i.out (2 * c.loop-i.i))

pub returns : goal.returns
returns c =
    let e : c.loop-i.i ≡ length c.args.bytes.now = omega arith in
    let w = sets_whole (hex_line c.args.bytes.now) c.args.out.now (line-length c.args.bytes.now ∙ sym c.requires) in
    sym (sym w ∙ c.loop-i.invariant ∙ ap (λ (r : List ℕ). sets c.loop-i.out (2 * c.loop-i.i) (hex_line r)) (drop_of_length-le c.args.bytes.now c.loop-i-test.false) ∙ rw e (line-end c.loop-i.out _))

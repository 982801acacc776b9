-- `normal::bytes::put_wide` meets its contract.
use Rattle.std.proofs.Common.{◌≡◌, ◌/◌, ◌%◌, [], ◌∷◌, ◌∙◌, arith}
use Rattle.form.specs.declared.Form.TheVariants.{Wide}
use Rattle.sheet.specs.declared.Fields.{Fields}
use Rattle.normal.specs.Normal.{frame_of}
use Rattle.normal.specs.Lists.{Fits}
use Rattle.words.proofs.Stores.{stored}
use Rattle.normal.proofs.bytes.put_wide.Goals as goal

-- the higher byte is below 256
same_bytes : {f : Fields} → Fits Wide f → f.k ∷ f.a / 256 % 256 ∷ f.a % 256 ∷ f.b / 256 % 256 ∷ f.b % 256 ∷ f.c / 256 % 256 ∷ f.c % 256 ∷ [] ≡ frame_of Wide f
same_bytes {f} h =
    let a : f.a / 256 % 256 ≡ f.a / 256 = omega (arith, h.a-fits) in
    let b : f.b / 256 % 256 ≡ f.b / 256 = omega (arith, h.b-fits) in
    let c : f.c / 256 % 256 ≡ f.c / 256 = omega (arith, h.c-fits) in
    rw (a, b, c)

pub returns : goal.returns
returns c = stored c.args.at c.args.out.now (frame_of Wide c.args.f)
    (c.copy_from_slice.ensures.after ∙ rw (c.to_be_bytes.ensures, c.to_be_bytes-2.ensures, c.to_be_bytes-3.ensures) (same_bytes c.requires.0))
    (omega arith) c.requires.1

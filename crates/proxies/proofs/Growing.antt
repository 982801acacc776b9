-- What a search over a net does to the tables of records: they grow, and whatever formulas of the frames they were true of, they still are. The net is faithful to
-- these, the sheet's, so that a search need not know them. Assumes nothing.
use Rattle.std.specs.Prelude.{ℕ, List}
use Rattle.records.proofs.Table.{grown_refl, grown_trans}
use Rattle.net.specs.Layout.{net_form}
use Rattle.proxies.specs.Growing.{Growing}

pub growing_same : {net u : List ℕ} {cu : ℕ} {o : List ℕ} {co : ℕ} → Growing net u cu o co u cu o co
growing_same {net} {u} {cu} {o} {co} = record { under = grown_refl (net_form net) u cu; over = grown_refl (net_form net) o co; true-still = λ φ f t. t }

pub growing_then : {net u u' u'' : List ℕ} {cu cu' cu'' : ℕ} {o o' o'' : List ℕ} {co co' co'' : ℕ}
    → Growing net u cu o co u' cu' o' co' → Growing net u' cu' o' co' u'' cu'' o'' co'' → Growing net u cu o co u'' cu'' o'' co''
growing_then g h = record {
  under = grown_trans g.under h.under;
  over = grown_trans g.over h.over;
  true-still = λ φ f t. h.true-still φ f (g.true-still φ f t);
}

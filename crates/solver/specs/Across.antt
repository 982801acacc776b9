-- From the net to the sheet: what is found or lost of a formula is so of every one that it serves for, and tables that are true of the sheet grow to such.
-- Assumes nothing.
use Rattle.std.specs.Prelude.{ℕ, ◌+◌, ◌-◌, ◌≡◌, Bool, List}
use Rattle.std.proofs.Common.{sym, ◌∙◌, ap}
use Rattle.words.specs.Word.{bit}
use Rattle.formula.specs.Formula.{Formula, free}
use Rattle.formula.proofs.Ask.{bit-free}
use Rattle.sheet.specs.Fields.{Sheet, frames}
use Rattle.sheet.specs.Frames.{formula}
use Rattle.records.specs.Both.{Tables, TablesGrown}
use Rattle.net.specs.Stands.{Serves, explains_serves}
use Rattle.net.specs.Layout.{frames_of, free_of, formula_at}
use Rattle.net.specs.Sheet.{NetOf, net-form, net_faithful, root}
use Rattle.proxies.specs.Growing.{Growing}
use Rattle.search.specs.Search.{Found, Lost}

-- ---- a formula that serves for another

module _ {f g : Formula} {v : Bool} {loose w : ℕ} (S : Serves f g) where
  pub found_serves : {word r : ℕ} → Found g v loose w word r → Found f v loose w word r
  found_serves h = record {
    explains = explains_serves S h.explains;
    chosen = h.chosen;
    inside = h.inside;
    is = h.is;
    least = λ z i l. sym (S.same (bit (w + z))) ∙ h.least z i l;
  }

  pub lost_serves : {r : ℕ} → Lost g v loose w r → Lost f v loose w r
  lost_serves h = record { explains = explains_serves S h.explains; apart = h.apart }

-- ---- a sheet and its net

module _ {s : Sheet} {net : List ℕ} (N : NetOf s net) where
  -- what tables that are true of the sheet grow to is true of it
  pub grown_sheet : {u : List ℕ} {cu : ℕ} {o : List ℕ} {co : ℕ} {u' : List ℕ} {cu' : ℕ} {o' : List ℕ} {co' : ℕ}
      → Tables s.form (formula s) (frames s) u cu o co → Growing net u cu o co u' cu' o' co' → TablesGrown s.form (formula s) (frames s) u cu o co u' cu' o' co'
  grown_sheet T G = record {
    tables = rw (N.count, net-form N) at (G.true-still (formula s) (net_faithful N) (rw (N.count, net-form N) T));
    under = rw (net-form N) at G.under;
    over = rw (net-form N) at G.over;
  }

  pub root_serves : Serves (root s) (formula_at net (frames_of net - 1))
  root_serves = rw N.count N.ends

  -- the free variables, as a word
  pub bit_opens : (k : ℕ) → bit (free_of net) k ≡ free (root s) k
  bit_opens k = ap (λ (x : ℕ). bit x k) N.opens ∙ bit-free N.bounded k

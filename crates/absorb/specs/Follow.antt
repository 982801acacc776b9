-- One net follows another: nodes that are the same in both keep a relation between assignments. Assumes nothing.
use Rattle.std.specs.Prelude.{ℕ, ◌<◌, ◌≡◌, Bool, ◌||◌, eqb}
use Rattle.std.proofs.Math.Path.{refl, sym, ap, ap₂, fun_ext}
use Rattle.std.proofs.Common.{◌∙◌, eqb-true}
use Rattle.std.proofs.Math.Bool.{true, false, not}
use Rattle.words.proofs.Logic.{by_bool, clash, and_both, or_cases, or_left, or_right}
use Rattle.words.specs.Word.{bit}
use Rattle.formula.specs.Assignment.{Assignment, assign, join, On}
use Rattle.formula.proofs.Assignment.{assign-same, assign_other, assign_self}
use Rattle.formula.specs.Formula.{Formula, truth, free}
use Rattle.formula.specs.Over.{Beside, over}
use Rattle.formula.proofs.Over.{over-free, over-same}
use Rattle.net.specs.Net.{Node, Fixed, Reads, Flips, Joins, Binds, Net, build, meaning, value, frees, Fit, Ordered, meaning-is, at_node, upward}
use Rattle.absorb.specs.Absorb.{Names, Spares}

abbrev pub Relation : Type 1
Relation = Assignment → Assignment → Type 0

-- from pairs of ρ, an assignment beside the one has a partner beside the other, and back; the partners are of π
pub record Zigzag (ρ π : Relation) (m : ℕ) : Type 0 where
  pub forth : (σ τ α : Assignment) → ρ σ τ → Beside m α σ → (β : Assignment) × Beside m β τ × π α β
  pub back : (σ τ β : Assignment) → ρ σ τ → Beside m β τ → (α : Assignment) × Beside m α σ × π α β

pub over_follow : {ρ π : Relation} {m : ℕ} (d : Bool) (f g : Formula) (σ τ : Assignment) → Zigzag ρ π m
    → ((α β : Assignment) → π α β → truth f α ≡ truth g β) → ρ σ τ → truth (over d m f) σ ≡ truth (over d m g) τ
over_follow {m} d f g σ τ z h r =
    over-same d m m f g σ τ
    (λ α a e. let b = z.forth σ τ α r a in (b.0, b.1, sym (h α b.0 b.2) ∙ e))
    (λ β b e. let a = z.back σ τ β r b in (a.0, a.1, h a.0 β a.2 ∙ e))

-- ---- nodes that are the same in both

-- it keeps ρ: a variable that it reads is the same in both, a mask that it binds has partners
abbrev pub Keeps : Relation → Node → Type 0
Keeps ρ (Fixed v) = Unit {0}
Keeps ρ (Reads x) = (σ τ : Assignment) → ρ σ τ → σ x ≡ τ x
Keeps ρ (Flips a) = Unit {0}
Keeps ρ (Joins d a b) = Unit {0}
Keeps ρ (Binds d m a) = Zigzag ρ ρ m

-- node k has under σ in A the value that it has under τ in B
abbrev pub Equal : Net → Net → Relation → ℕ → Type 0
Equal A B ρ k = (σ τ : Assignment) → ρ σ τ → value A k σ ≡ value B k τ

module _ (A B : Net) (oA : Ordered A) (oB : Ordered B) (r : ℕ → Bool) (ρ : Relation) where
  -- the same node, the nodes that it names equal
  pub alike : (k : ℕ) → B k ≡ A k → Names r (A k) → Keeps ρ (A k) → ((j : ℕ) → j < k → r j ≡ true → Equal A B ρ j) → Equal A B ρ k
  unfolding build truth
  alike k s c p h σ τ q =
      ap (λ (f : Formula). truth f σ) (meaning-is A oA k)
      ∙ go (A k) (oA.fit k) c p
      ∙ sym (ap (λ (f : Formula). truth f τ) (at_node oB s))
    where
      go : (u : Node) → Fit k u → Names r u → Keeps ρ u → truth (build (meaning A) u) σ ≡ truth (build (meaning B) u) τ
      go (Fixed true) w c p = refl
      go (Fixed false) w c p = refl
      go (Reads x) w c p = p σ τ q
      go (Flips a) w c p = ap not (h a w c σ τ q)
      go (Joins d a b) w c p = ap₂ (join d) (h a w.0 c.0 σ τ q) (h b w.1 c.1 σ τ q)
      go (Binds d m a) w c p = over_follow d (meaning A a) (meaning B a) σ τ p (h a w c) q

  -- from the nodes of a set, each of which is so or has another reason, to all of them
  pub follow : ((k : ℕ) → r k ≡ true → ((j : ℕ) → j < k → r j ≡ true → Equal A B ρ j) → Equal A B ρ k) → (k : ℕ) → r k ≡ true → Equal A B ρ k
  follow step = upward (λ k. r k ≡ true → Equal A B ρ k) (λ k h i. step k i h)

-- ---- the free variables: in B they are those in A, or extra ones

abbrev pub Fewer : Net → Net → (ℕ → Bool) → ℕ → Type 0
Fewer A B e k = (x : ℕ) → frees B k x ≡ true → frees A k x || e x ≡ true

module _ (A B : Net) (oA : Ordered A) (oB : Ordered B) (r e : ℕ → Bool) where
  pub alike_free : (k : ℕ) → B k ≡ A k → Names r (A k) → ((j : ℕ) → j < k → r j ≡ true → Fewer A B e j) → Fewer A B e k
  unfolding build free
  alike_free k s c h x i =
      ap (λ (f : Formula). free f x || e x) (meaning-is A oA k)
      ∙ go (A k) (oA.fit k) c (sym (ap (λ (f : Formula). free f x) (at_node oB s)) ∙ i)
    where
      go : (u : Node) → Fit k u → Names r u → free (build (meaning B) u) x ≡ true → free (build (meaning A) u) x || e x ≡ true
      go (Fixed true) w c i = clash false i refl
      go (Fixed false) w c i = clash false i refl
      go (Reads y) w c i = rw i
      go (Flips a) w c i = h a w c x i
      go (Joins d a b) w c i =
          or_cases (frees B a x) (frees B b x) i
          (λ l. or_cases (frees A a x) (e x) (h a w.0 c.0 x l)
          (λ t. rw t)
          (λ t. rw t (or_right (frees A a x || frees A b x) true refl)))
          (λ l. or_cases (frees A b x) (e x) (h b w.1 c.1 x l)
          (λ t. or_left (frees A a x || frees A b x) (e x) (or_right (frees A a x) (frees A b x) t))
          (λ t. rw t (or_right (frees A a x || frees A b x) true refl)))
      go (Binds d m a) w c i =
          let p = and_both (frees B a x) (not (bit m x)) (sym (over-free d m (meaning B a) x) ∙ i) in
          or_cases (frees A a x) (e x) (h a w c x p.0)
          (λ t. or_left (free (over d m (meaning A a)) x) (e x) (over-free d m (meaning A a) x ∙ rw (t, p.1)))
          (λ t. or_right (free (over d m (meaning A a)) x) (e x) t)

  pub follow_free : ((k : ℕ) → r k ≡ true → ((j : ℕ) → j < k → r j ≡ true → Fewer A B e j) → Fewer A B e k) → (k : ℕ) → r k ≡ true → Fewer A B e k
  follow_free step = upward (λ k. r k ≡ true → Fewer A B e k) (λ k h i. step k i h)

-- ---- the same assignment on both sides

abbrev pub Same : Relation
Same σ τ = σ ≡ τ

pub same-keeps : (u : Node) → Keeps Same u
same-keeps (Fixed v) = tt
same-keeps (Reads x) = λ σ τ e. ap (λ (α : Assignment). α x) e
same-keeps (Flips a) = tt
same-keeps (Joins d a b) = tt
same-keeps (Binds d m a) =
    record {
      forth = λ σ τ α e b. (α, λ k i. b k i ∙ ap (λ (β : Assignment). β k) e, refl);
      back = λ σ τ β e b. (β, λ k i. b k i ∙ sym (ap (λ (α : Assignment). α k) e), refl);
    }

-- ---- y set to v on the right: v reads the variables of F, and no node on the way binds one of them or y

abbrev pub Shift : ℕ → (Assignment → Bool) → Relation
Shift y v σ τ = τ ≡ assign σ y (v σ)

-- v depends on the variables of F only
abbrev pub Depends : (Assignment → Bool) → (ℕ → Bool) → Type 0
Depends v F = (σ τ : Assignment) → On F σ τ → v σ ≡ v τ

pub double_assign : (σ : Assignment) (y : ℕ) (a b : Bool) → assign (assign σ y a) y b ≡ assign σ y b
unfolding assign
double_assign σ y a b = fun_ext (λ k. by_bool (eqb k y) (λ e. rw e) (λ e. rw e))

pub shift_zigzag : (y : ℕ) (v : Assignment → Bool) (F : ℕ → Bool) → Depends v F → (m : ℕ) → bit m y ≡ false
    → ((k : ℕ) → F k ≡ true → bit m k ≡ false) → Zigzag (Shift y v) (Shift y v) m
shift_zigzag y v F reads m off apart =
    record {
      forth = λ σ τ α r b. (
        assign α y (v α),
        λ k i. by_bool (eqb k y)
            (λ e. rw (r, eqb-true k y e, assign-same α y (v α), assign-same σ y (v σ)) (keep α σ b))
            (λ e. rw r (assign_other α y (v α) k e ∙ b k i ∙ sym (assign_other σ y (v σ) k e))),
        refl,
      );
      back = λ σ τ β r b.
          let α = assign β y (σ y) in
          let near : Beside m (assign β y (σ y)) σ =
          λ k i. by_bool (eqb k y)
          (λ e. rw (eqb-true k y e, assign-same β y (σ y)))
          (λ e. assign_other β y (σ y) k e ∙ b k i ∙ rw r (assign_other σ y (v σ) k e)) in (
            α,
            near,
            sym (double_assign β y (σ y) (v α) ∙ assign_self β y (v α) (b y off ∙ rw r (assign-same σ y (v σ)) ∙ sym (keep α σ near))),
          );
    }
  where
    keep : (α σ : Assignment) → Beside m α σ → v α ≡ v σ
    keep α σ b = reads α σ (λ k i. b k (apart k i))

pub spares_keeps : (y : ℕ) (v : Assignment → Bool) (F : ℕ → Bool) → Depends v F → (u : Node) → Spares y F u → Keeps (Shift y v) u
spares_keeps y v F reads (Fixed w) c = tt
spares_keeps y v F reads (Reads x) c = λ σ τ r. rw r (sym (assign_other σ y (v σ) x c))
spares_keeps y v F reads (Flips a) c = tt
spares_keeps y v F reads (Joins d a b) c = tt
spares_keeps y v F reads (Binds d m a) c = shift_zigzag y v F reads m c.0 c.1

-- ---- the nodes that are reached without going through q, where q's value is the same

module _ (A B : Net) (oA : Ordered A) (oB : Ordered B) (outer : ℕ → Bool) (q : ℕ)
    (names : (k : ℕ) → outer k ≡ true → eqb k q ≡ false → Names outer (A k))
    (same : (k : ℕ) → outer k ≡ true → eqb k q ≡ false → B k ≡ A k) where
  pub outside : ((σ : Assignment) → value A q σ ≡ value B q σ) → (k : ℕ) → outer k ≡ true → (σ : Assignment) → value A k σ ≡ value B k σ
  outside at k i σ =
      follow A B oA oB outer Same
      (λ j u h. by_bool (eqb j q)
      (λ e. rw (eqb-true j q e) (λ α β r. rw r (at β)))
      (λ e. alike A B oA oB outer Same j (same j u e) (names j u e) (same-keeps (A j)) h))
      k i σ σ refl

  pub outside-free : ((x : ℕ) → frees B q x ≡ true → frees A q x ≡ true) → (k : ℕ) → outer k ≡ true → (x : ℕ) → frees B k x ≡ true → frees A k x ≡ true
  outside-free at k i x t =
      or_cases (frees A k x) false
      (follow_free A B oA oB outer (λ j. false)
      (λ j u h. by_bool (eqb j q)
      (λ e. rw (eqb-true j q e) (λ z w. or_left (frees A q z) false (at z w)))
      (λ e. alike_free A B oA oB outer (λ z. false) j (same j u e) (names j u e) h))
      k i x t)
      (λ e. e) (λ e. clash false e refl)

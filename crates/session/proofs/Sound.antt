-- What a session holds, and what is always so of it: on a checked sheet, with entries that may stand together and tables of true records. Assumes nothing.
use Rattle.std.specs.Prelude.{ℕ, ◌≤◌, ◌≡◌, List, [], length}
use Rattle.std.proofs.Common.{arith, sym, length-take-le, get_or-take, take-take}
use Rattle.words.specs.Word.{bit}
use Rattle.form.proofs.FormLaws.{few-variables}
use Rattle.sheet.specs.Fields.{Sheet, variables}
use Rattle.sheet.specs.Rules.{gauges}
use Rattle.records.proofs.Both.{tables_none}
pub use Rattle.net.specs.Sheet.{Checked}
use Rattle.solver.specs.Contract.{root, Ready}
use Rattle.session.specs.declared.Session.{Session}
use Rattle.model.specs.Model.{no_entry, entered_mask, entered_values}
use Rattle.model.proofs.Entries.{words_valued, words_opened, none-entered, not_earlier_lem, opens_below, bit_opens}
use Rattle.session.specs.Sound.{Empty, OnNet, Shaped, Sound, WordsKept, sheet_meaning, standing_of}

-- ---- the entries

pub length-standing : (x : Session) → length x.entries ≡ 64 → x.len ≤ 64 → length (standing_of x) ≡ x.len
length-standing x e h = length-take-le x.len x.entries (omega arith)

module _ {s : Sheet} {free : ℕ} {x : Session} {u o : List ℕ} (d : Sound s free x u o) where
  pub sound_length : length (standing_of x) ≡ x.len
  sound_length = length-standing x d.cells d.within

  pub sound_shaped : Shaped x
  sound_shaped = record {
    cells = d.cells;
    within = d.within;
    low = λ i h. omega (arith, few-variables s.form, opens_below (variables s) (root s) (gauges s) _ (rw (get_or-take x.len x.entries i no_entry h) at (d.entered.opened i (rw sound_length h))));
    fresh = λ i h. rw (take-take i x.len x.entries (omega arith), get_or-take x.len x.entries i no_entry h) at (not_earlier_lem i d.entered (rw sound_length h));
    words = d.words;
  }

  -- what the model calls open is what the word of the free variables has
  pub sound_opens : {f : ℕ} → f ≡ free → (v : ℕ) → (sheet_meaning s).opens v ≡ bit f v
  sound_opens e v = sym (rw (e, d.sheet.opens) (bit_opens (variables s) (root s) (gauges s) v))

-- as the solver wants its entries
pub net_ready : {s : Sheet} {net : List ℕ} {x : Session} {u o : List ℕ} → OnNet s net x u o → Ready s net x.entered.mask x.entered.values u x.kept.under o x.kept.over
net_ready {s} d = record {
  checked = d.sound.sheet;
  net_of = d.net_of;
  entered = rw d.sound.sheet.opens (words_opened (variables s) (root s) (gauges s) d.sound.entered d.sound.words);
  valued = words_valued d.sound.words;
  tables = d.sound.tables;
}

pub empty_standing : {x : Session} → Empty x → standing_of x ≡ []
empty_standing e = rw e.none

pub empty_words : {x : Session} → Empty x → WordsKept x
unfolding entered_mask entered_values
empty_words e = rw e.none (record { mask_is = e.mask; values_are = e.values })

-- the empty session is sound, with any tables
pub empty_sound : {s : Sheet} {free : ℕ} {x : Session} (u o : List ℕ) → Checked s free → Empty x → Sound s free x u o
empty_sound {s} {x = x} u o k e = record {
  sheet = k;
  cells = e.cells;
  within = omega (arith, e.none);
  entered = rw (empty_standing e) (none-entered (sheet_meaning s));
  words = empty_words e;
  tables = rw (e.under, e.over) (tables_none u o);
}

-- The records of a table file where they lie: the node of a slot and the message of a place are those of their own bytes, slots at n and above are
-- blank, and the ids stand at the head of their records. Assumes nothing.
use mathlib.Core.Path.{◌≡◌, refl, sym, ◌∙◌, ap}
use mathlib.Core.Logic.{⊎_elim}
use mathlib.Core.Bool.{Bool, true, false, ◌&&◌}
use mathlib.Core.List.{List, [], ◌∷◌, ◌++◌, map}
use Prim.Native.Nat.{ℕ, zero, suc, ◌+◌, ◌-◌, ◌*◌, ◌^◌, ◌<◌, ◌≤◌}
use native.Mathlib.Omega.{arith}
use lib.Dec.{eqb, leb, ltb}
use lib.ListN.{length, get_or, drop, set, replicate, length-replicate, get_or-append}
use lib.Seq.{drop-drop}
use Rattle.marks.specs.Marks.{all_to}
use Rattle.marks.proofs.Bools.{lt-or-le, and_left, and_right, and_both}
use Rattle.marks.proofs.Laws.{each, all_of, fails}
use Rattle.words.specs.Bytes.{decode}
use Rattle.words.proofs.Codec.{decode-all-length}
use Rattle.rules.specs.declared.Node.{Node}
use Rattle.rules.specs.declared.Ring.{Ring}
use Rattle.rules.specs.Limits.{m_low, m_high, l_low, l_high, nodes_high, messages_high}
use Rattle.rules.specs.Fits.{between, numbers_fit, is_blank, node_fits, slot_fits}
use Rattle.rules.specs.Nodes.{no_node}
use Rattle.table_type.specs.declared.Table.{Table}
use Rattle.table_type.specs.Table.{node_at, id_of, ids_of, ring_of}
use Rattle.table.specs.Valid.{nodes_fit}
use Rattle.table_valid.proofs.Slots.{low_at, low-next, slot-listed, slot-blank}
use Rattle.file.specs.Format.{node_widths, nodes_at, node_from, at}
use Rattle.file.specs.Load.{header_word, file_m, file_l, file_n, file_count, header_fits, node_rows, file_table}
use Rattle.file.proofs.Rows.{map_at}
use Rattle.file.proofs.File.{node-row-at}
use Rattle.std.proofs.lemmas.List.{drop-replicate}
use Rattle.file_read.proofs.Laws.{field, passed, passed_none, passed-more, rows_long}

-- ---- places past a list

blank-all : {A : Type 0} (k : ℕ) (d : A) (s : ℕ) → get_or (replicate k d) s d ≡ d
blank-all zero d s = refl
blank-all (suc k) d zero = refl
blank-all (suc k) d (suc s) = blank-all k d s

past : {A : Type 0} (xs : List A) (k : ℕ) (d : A) (s : ℕ) → length xs ≤ s → get_or (xs ++ replicate k d) s d ≡ d
past [] k d s h = blank-all k d s
past (x ∷ xs) k d zero h = absurd (omega arith)
past (x ∷ xs) k d (suc s) h = past xs k d s (omega arith)

map-blank : {A B : Type 0} (f : A → B) (k : ℕ) (d : A) → map f (replicate k d) ≡ replicate k (f d)
map-blank f zero d = refl
map-blank {A} {B} f (suc k) d = ap (λ (l : List B). f d ∷ l) (map-blank f k d)

map-passed : {A B C : Type 0} (f : B → C) (g : A → B) (xs : List A) (k : ℕ) (d : B)
    → map f (map g xs ++ replicate k d) ≡ map (λ x. f (g x)) xs ++ replicate k (f d)
map-passed f g [] k d = map-blank f k d
map-passed {A} {B} {C} f g (x ∷ xs) k d = ap (λ (l : List C). f (g x) ∷ l) (map-passed f g xs k d)

-- ---- nodes

-- slot s of a table obeys its rule
abbrev pub slot_in : Table → ℕ → Bool
slot_in t s = slot_fits (ring_of t) (ids_of t) s (node_at t s)

no-node-blank : is_blank no_node ≡ true
unfolding is_blank
no-node-blank = refl

-- where no node stands at n and above, the listed slots decide
pub listed-decide : (t : Table) → ((s : ℕ) → t.n ≤ s → node_at t s ≡ no_node) → all_to t.n (slot_in t) ≡ true → nodes_fit t ≡ true
unfolding nodes_fit
listed-decide t b e = all_of 64 (slot_in t) one
  where
    one : (s : ℕ) → s < 64 → slot_in t s ≡ true
    one s h =
        ⊎_elim (λ l. each t.n (slot_in t) s e l) (λ l. sym (slot-blank t s l) ∙ ap is_blank (b s l) ∙ no-node-blank)
        (lt-or-le s t.n)

pub slot-fails : (t : Table) (s : ℕ) → s < 64 → slot_in t s ≡ false → nodes_fit t ≡ false
unfolding nodes_fit
slot-fails t s h e = fails 64 (slot_in t) s h e

-- the number at the head of a node's row
abbrev pub id_in : List ℕ → ℕ
id_in r = at r 0

pub id-read : (bs : List ℕ) (at : ℕ) → id_in (decode node_widths (drop at bs)) ≡ field 4 at bs
unfolding decode
id-read bs at = refl

module _ (bs : List ℕ) where
  pub n-is : (file_table bs).n ≡ file_n bs
  unfolding file_table
  n-is = refl

  pub node_in_lem : (s : ℕ) → s < file_n bs → node_at (file_table bs) s ≡ node_from (decode node_widths (drop (nodes_at + 64 * s) bs))
  unfolding file_table
  node_in_lem s h =
      get_or-append (map node_from (node_rows bs)) (replicate (64 - file_n bs) no_node) no_node s
      (omega (arith, rows_long node_from node_widths 64 (file_n bs) (drop nodes_at bs)))
      ∙ map_at node_from [] no_node (node_rows bs) s (omega (arith, decode-all-length node_widths 64 (file_n bs) (drop nodes_at bs)))
      ∙ ap node_from (node-row-at bs s h)

  pub node-past : (s : ℕ) → (file_table bs).n ≤ s → node_at (file_table bs) s ≡ no_node
  unfolding file_table
  node-past s h =
      past (map node_from (node_rows bs)) (64 - file_n bs) no_node s
      (omega (arith, rows_long node_from node_widths 64 (file_n bs) (drop nodes_at bs)))

  pub header-numbers : header_fits bs ≡ true → numbers_fit (ring_of (file_table bs)) ≡ true
  unfolding header_fits numbers_fit file_table
  header-numbers h =
      let a = between m_low (file_m bs) m_high in
      let b = between l_low (file_l bs) l_high in
      let c = between 1 (file_n bs) nodes_high in
      let d = leb (file_count bs) messages_high && eqb (header_word bs 7) 0 in
      let bcd = and_right a (b && (c && d)) h in
      and_both (and_left a (b && (c && d)) h) (and_both (and_left b (c && d) bcd) (and_left c d (and_right b (c && d) bcd)))

  -- a slot below n is one of the file's
  pub inside : (g : Ring) (s : ℕ) → g ≡ ring_of (file_table bs) → s < g.n → s < file_n bs
  inside g s e h = omega (arith, h, ap (λ (g : Ring). g.n) e, n-is)

  -- one turn decides its slot
  pub slot_turn : (g : Ring) (low s : ℕ) (v : Node) (a b : Bool) → g ≡ ring_of (file_table bs) → low ≡ low_at (ids_of (file_table bs)) s
      → s < file_n bs → v ≡ node_from (decode node_widths (drop (nodes_at + 64 * s) bs))
      → a ≡ (ltb v.id (2 ^ g.m) && leb low v.id) → b ≡ node_fits g s v → (a && b) ≡ slot_in (file_table bs) s
  slot_turn g low s v a b e l h r p q =
      rw (p, q, e, l, r ∙ sym (node_in_lem s h)) (slot-listed (file_table bs) s (omega (arith, n-is)))

  pub low_turn : (s : ℕ) (v : Node) → s < file_n bs → v ≡ node_from (decode node_widths (drop (nodes_at + 64 * s) bs))
      → v.id + 1 ≡ low_at (ids_of (file_table bs)) (s + 1)
  low_turn s v h r = ap (λ (w : Node). w.id + 1) (r ∙ sym (node_in_lem s h)) ∙ low-next (file_table bs) s

  abbrev pub ids_to : ℕ → List ℕ
  ids_to s = passed id_in node_widths 64 (drop nodes_at bs) (replicate 64 0) s

  pub ids-none : replicate 64 0 ≡ ids_to 0
  ids-none = sym (passed_none id_in node_widths 64 (drop nodes_at bs) (replicate 64 0))

  pub ids_more : (ids : List ℕ) (s r : ℕ) → s < 64 → ids ≡ ids_to s → r ≡ field 4 (nodes_at + 64 * s) bs → set ids s r ≡ ids_to (s + 1)
  ids_more ids s r h e q =
      let read = q ∙ sym (id-read bs (nodes_at + 64 * s)) ∙ ap (λ (l : List ℕ). id_in (decode node_widths l)) (sym (drop-drop (64 * s) nodes_at bs)) in
      ap (λ (l : List ℕ). set l s r) e
      ∙ passed-more id_in node_widths 64 (drop nodes_at bs) (replicate 64 0) s r (omega (arith, length-replicate {A = ℕ} 64 0)) read

  pub ids-are : ids_of (file_table bs) ≡ ids_to (file_n bs)
  unfolding file_table
  ids-are =
      map-passed id_of node_from (node_rows bs) (64 - file_n bs) no_node
      ∙ ap (λ (l : List ℕ). map id_in (node_rows bs) ++ l) (sym (drop-replicate (file_n bs) 64 0))

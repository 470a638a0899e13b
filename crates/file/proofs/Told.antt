-- What a valid table and pool tell of themselves as they are read again: the slots are those that are listed, then blank ones, and the pool
-- may be laid out anew. Assumes nothing.
use mathlib.Core.Path.{◌≡◌, sym, ◌∙◌, ap}
use mathlib.Core.List.{List, ◌++◌}
use Prim.Native.Nat.{ℕ, ◌+◌, ◌-◌, ◌<◌}
use native.Mathlib.Omega.{arith}
use lib.ListN.{length, get_or, take, drop, replicate, length-drop, length-replicate, get_or-replicate, take-append-drop, get_or-append}
use lib.Seq.{length-take-le, ext_get_or, get_or-drop, get_or-take, take-append_seam}
use Rattle.rules.specs.declared.Node.{Node}
use Rattle.rules.specs.declared.Pool.{Pool}
use Rattle.rules.specs.Nodes.{no_node}
use Rattle.rules.specs.Pool.{blank, message_at, waiting, laid}
use Rattle.table_type.specs.declared.Table.{Table}
use Rattle.table_laws.proofs.Sound.{Sound}

module _ {t : Table} {p : Pool} (v : Sound t p) where
  pub slots-told : length t.nodes ≡ 64 → take t.n t.nodes ++ replicate (64 - t.n) no_node ≡ t.nodes
  slots-told e =
      ap (λ (vs : List Node). take t.n t.nodes ++ vs)
      (ext_get_or no_node (replicate (64 - t.n) no_node) (drop t.n t.nodes) (rw (length-replicate, length-drop, e)) blanks)
      ∙ take-append-drop t.n t.nodes
    where
      blanks : (i : ℕ) → i < length (replicate (64 - t.n) no_node)
          → get_or (replicate (64 - t.n) no_node) i no_node ≡ get_or (drop t.n t.nodes) i no_node
      blanks i h =
          let l : i < 64 - t.n = rw length-replicate at h in
          get_or-replicate (64 - t.n) i no_node no_node l
          ∙ sym (get_or-drop t.n t.nodes i no_node ∙ v.blank (t.n + i) (omega arith) (omega arith))

  pub laid-told : length p.places ≡ 256 → Sound t (laid (waiting p))
  laid-told e =
      let long : length (waiting p) ≡ p.count = length-take-le p.count p.places (omega (arith, v.counted)) in
      record {
        numbers = v.numbers;
        listed = v.listed;
        node = v.node;
        blank = v.blank;
        counted = rw long v.counted;
        message = λ q h. rw (same q h) (v.message q (omega arith));
        hops = λ q h. rw (same q h) (v.hops q (omega arith));
        different = rw (take-append_seam (waiting p)) v.different;
      }
    where
      same : (q : ℕ) → q < length (waiting p) → message_at (laid (waiting p)) q ≡ message_at p q
      same q h =
          let l : q < p.count = rw (length-take-le p.count p.places (omega (arith, v.counted))) at h in
          get_or-append (waiting p) _ blank q h ∙ get_or-take p.count p.places q blank l

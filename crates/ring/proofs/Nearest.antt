-- Who holds a key, among ready ids. The idea: a node that is flanked by its neighbours, so that no other ready node is closer to it on
-- either side, is nearer to what it covers than every other ready node (`covers-nearest`); hence no two cover one key (`one-holder`).
-- Where the neighbours are ready themselves, as in a settled table, what it does not cover is nearer to one of them (`uncovered`), so
-- that it covers exactly the keys to which it is the nearest ready node. Assumes nothing.
use mathlib.Core.Path.{◌≡◌, refl, sym, ◌∙◌}
use mathlib.Core.Logic.{◌⊎◌, ⊎_elim}
use mathlib.Core.Bool.{Bool, true, false, true≢false}
use Prim.Native.Nat.{ℕ, ◌<◌, ◌≤◌}
use native.Mathlib.Decide.{ℕ_discrete}
use Rattle.ring.specs.Distance.{fall_of, nearer, covers_key}
use Rattle.ring.proofs.Falls.{Ring}
use Rattle.ring.proofs.Order.{nearer-transitive, nearer-irreflexive}
use Rattle.ring.proofs.Cover.{covered-nearer, uncovered-nearer, lone-covers}

-- no ready id other than i is closer to i than l upwards and r downwards; with such an id about, neither l nor r is i
pub record Flanks (N : ℕ) (Ready : ℕ → Type 0) (i l r : ℕ) : Type 0 where
  pub l-in : l < N
  pub r-in : r < N
  pub up : (j : ℕ) → Ready j → (j ≡ i → ⊥) → (l ≡ i → ⊥) × (fall_of N l i ≤ fall_of N j i)
  pub down : (j : ℕ) → Ready j → (j ≡ i → ⊥) → (r ≡ i → ⊥) × (fall_of N i r ≤ fall_of N i j)

-- l and r are the next ready ids up and down from i: i itself if it is alone
pub record Next (N : ℕ) (Ready : ℕ → Type 0) (i l r : ℕ) : Type 0 where
  pub flanks : Flanks N Ready i l r
  pub l-ready : Ready l
  pub r-ready : Ready r

-- i is nearer to k than every other ready id
abbrev pub Nearest : ℕ → (ℕ → Type 0) → ℕ → ℕ → Type 0
Nearest N Ready k i = (j : ℕ) → Ready j → (j ≡ i → ⊥) → nearer N k i j ≡ true

module _ (N : ℕ) (R : Ring N) (Ready : ℕ → Type 0) (below : (j : ℕ) → Ready j → j < N) (k : ℕ) (hk : k < N) where
  module _ (i l r : ℕ) (hi : i < N) where
    pub covers-nearest : Flanks N Ready i l r → covers_key N i l r k ≡ true → Nearest N Ready k i
    covers-nearest n c j hj apart =
        let u = n.up j hj apart in
        let d = n.down j hj apart in
        covered-nearer N R i k hi hk l r n.l-in n.r-in d.0 c j (below j hj) apart u.1 d.1

    -- a key that i does not cover is nearer to a neighbour
    pub uncovered : Next N Ready i l r → covers_key N i l r k ≡ false → (nearer N k l i ≡ true) ⊎ (nearer N k r i ≡ true)
    uncovered n c = go (ℕ_discrete l i) (ℕ_discrete r i)
      where
        go : Dec (l ≡ i) → Dec (r ≡ i) → (nearer N k l i ≡ true) ⊎ (nearer N k r i ≡ true)
        go (yes dl) (yes dr) = absurd (true≢false (sym (lone-covers N i k hi hk) ∙ rw (dl, dr) at c))
        go (yes dl) (no dr) = absurd ((n.flanks.up r n.r-ready dr).0 dl)
        go (no dl) (yes dr) = absurd ((n.flanks.down l n.l-ready dl).0 dr)
        go (no dl) (no dr) = uncovered-nearer N R i k hi hk l r n.flanks.l-in n.flanks.r-in dl dr c

    pub nearest-covers : Next N Ready i l r → Nearest N Ready k i → covers_key N i l r k ≡ true
    nearest-covers n f = go (covers_key N i l r k) refl
      where
        beaten : (j : ℕ) → Ready j → nearer N k j i ≡ true → ⊥
        beaten j hj p = nearer-irreflexive N k i (nearer-transitive N k i j i (f j hj (λ e. nearer-irreflexive N k i (rw e at p))) p)

        go : (t : Bool) → covers_key N i l r k ≡ t → covers_key N i l r k ≡ true
        go true e = e
        go false e = absurd (⊎_elim (beaten l n.l-ready) (beaten r n.r-ready) (uncovered n e))

  -- no two ready nodes cover one key
  pub one-holder : (i l r i' l' r' : ℕ) → Ready i → Ready i' → Flanks N Ready i l r → Flanks N Ready i' l' r'
      → covers_key N i l r k ≡ true → covers_key N i' l' r' k ≡ true → i ≡ i'
  one-holder i l r i' l' r' hi hi' n n' c c' = go (ℕ_discrete i i')
    where
      go : Dec (i ≡ i') → i ≡ i'
      go (yes e) = e
      go (no d) =
          let p = covers-nearest i l r (below i hi) n c i' hi' (λ e. d (sym e)) in
          let q = covers-nearest i' l' r' (below i' hi') n' c' i hi d in
          absurd (nearer-irreflexive N k i (nearer-transitive N k i i' i p q))

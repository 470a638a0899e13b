-- The messages of 01, placed at a slot s below n, obey their kinds: what each asks of what it is made of. Each test computes for its kind, and
-- what is left is what is asked. Assumes nothing.
use mathlib.Core.Path.{◌≡◌, refl}
use mathlib.Core.Bool.{true}
use Prim.Native.Nat.{ℕ, ◌^◌, ◌<◌, ◌≤◌}
use borrow.Author.Tests.{lt-ltb, le-leb, eq-eqb}
use Rattle.marks.specs.Marks.{listed}
use Rattle.rules.specs.declared.Ring.{Ring}
use Rattle.rules.specs.declared.Sides.{Sides}
use Rattle.rules.specs.Fits.{leaf_fits, word_fits, flag_fits, carried_fits, owner_fits, routing_fits, failed_fits, fields_fit, message_fits}
use Rattle.rules.specs.Nodes.{placed}
use Rattle.rules.specs.Letters.{lookup_after, join_request, join_reply, ls_probe, ls_probe_reply, no_legal_route, lease_request, broadcast_l_set}

module _ (g : Ring) (s : ℕ) (h : s < g.n) where
  pub lookup-fits : (hops k : ℕ) → k < 2 ^ g.m → message_fits g (placed (lookup_after hops k) s) ≡ true
  unfolding message_fits fields_fit word_fits flag_fits carried_fits owner_fits routing_fits failed_fits
  lookup-fits hops k l = rw (lt-ltb s g.n h, lt-ltb k (2 ^ g.m) l)

  pub join_request-fits : (j routing : ℕ) → j < g.n → listed g.n routing ≡ true
      → message_fits g (placed (join_request j routing) s) ≡ true
  unfolding message_fits fields_fit word_fits flag_fits carried_fits owner_fits routing_fits failed_fits
  join_request-fits j routing l e = rw (lt-ltb s g.n h, lt-ltb j g.n l, e)

  pub join_reply-fits : (routing i : ℕ) (x : Sides) → listed g.n routing ≡ true → i < g.n → leaf_fits g i x ≡ true
      → message_fits g (placed (join_reply routing i x) s) ≡ true
  unfolding message_fits fields_fit word_fits flag_fits carried_fits owner_fits routing_fits failed_fits
  join_reply-fits routing i x e l f = rw (lt-ltb s g.n h, lt-ltb i g.n l, f, e)

  pub ls_probe-fits : (i : ℕ) (x : Sides) (failed : ℕ) → i < g.n → leaf_fits g i x ≡ true → listed g.n failed ≡ true
      → message_fits g (placed (ls_probe i x failed) s) ≡ true
  unfolding message_fits fields_fit word_fits flag_fits carried_fits owner_fits routing_fits failed_fits
  ls_probe-fits i x failed l f e = rw (lt-ltb s g.n h, lt-ltb i g.n l, f, eq-eqb i i refl, e)

  pub ls_probe_reply-fits : (i : ℕ) (x : Sides) (failed : ℕ) → i < g.n → leaf_fits g i x ≡ true → listed g.n failed ≡ true
      → message_fits g (placed (ls_probe_reply i x failed) s) ≡ true
  unfolding message_fits fields_fit word_fits flag_fits carried_fits owner_fits routing_fits failed_fits
  ls_probe_reply-fits i x failed l f e = rw (lt-ltb s g.n h, lt-ltb i g.n l, f, eq-eqb i i refl, e)

  pub no_legal_route-fits : (k : ℕ) → k < 2 ^ g.m → message_fits g (placed (no_legal_route k) s) ≡ true
  unfolding message_fits fields_fit word_fits flag_fits carried_fits owner_fits routing_fits failed_fits
  no_legal_route-fits k l = rw (lt-ltb s g.n h, lt-ltb k (2 ^ g.m) l)

  pub lease_request-fits : (i : ℕ) → i < g.n → message_fits g (placed (lease_request i) s) ≡ true
  unfolding message_fits fields_fit word_fits flag_fits carried_fits owner_fits routing_fits failed_fits
  lease_request-fits i l = rw (lt-ltb s g.n h, lt-ltb i g.n l)

  pub broadcast-fits : (i : ℕ) (x : Sides) (flag : ℕ) → i < g.n → leaf_fits g i x ≡ true → flag ≤ 1
      → message_fits g (placed (broadcast_l_set i x flag) s) ≡ true
  unfolding message_fits fields_fit word_fits flag_fits carried_fits owner_fits routing_fits failed_fits
  broadcast-fits i x flag l f k = rw (lt-ltb s g.n h, le-leb flag 1 k, lt-ltb i g.n l, f)

-- Words written one after the other are a record, records one after the other are the part of the file that they make, and its parts are the
-- file. Assumes nothing.
use mathlib.Core.Path.{◌≡◌, sym, ◌∙◌, ap}
use mathlib.Core.List.{List, [], ◌∷◌, ◌++◌, map, append_assoc, append-nil}
use Prim.Native.Nat.{ℕ, zero, suc, ◌+◌, ◌*◌, ◌<◌}
use native.Mathlib.Numerals.{add-one}
use native.Mathlib.Omega.{arith}
use lib.ListN.{length, get_or, take}
use Rattle.rules.specs.declared.Node.{Node}
use Rattle.rules.specs.declared.Message.{Message}
use Rattle.rules.specs.declared.Pool.{Pool}
use Rattle.table_type.specs.declared.Table.{Table}
use Rattle.rules.specs.Numbers.{status_number}
use Rattle.words.specs.Bytes.{bytes_of, encode, encode_all}
use Rattle.file.specs.Format.{header_widths, node_widths, message_widths, header_row, node_row, message_row, total_of, file_of}
use Rattle.file.specs.InnerParts.{node_bytes, message_bytes}
use Rattle.words.specs.InnerPut.{Put}
use Rattle.words.proofs.Puts.{ending, follow}

-- ---- records

pub node-run : {a b c d e f : List ℕ} {at i j k l m : ℕ} (v : Node) (x : ℕ) → x ≡ status_number v.status
    → Put 8 a at (bytes_of 4 v.id ++ bytes_of 4 x) i b → Put 16 b i (bytes_of 8 v.left ++ bytes_of 8 v.right) j c
    → Put 16 c j (bytes_of 8 v.probing ++ bytes_of 8 v.failed) k d → Put 16 d k (bytes_of 8 v.routing ++ bytes_of 8 v.lease) l e
    → Put 8 e l (bytes_of 8 v.grant) m f → Put 64 a at (encode node_widths (node_row v)) m f
unfolding encode
node-run v x h p q r s t = rw (← h) (simp append_assoc at (follow p (follow q (follow r (follow s (ending t))))))

pub message-run : {a b c d e f : List ℕ} {at i j k l n : ℕ} (m : Message)
    → Put 8 a at (bytes_of 4 m.kind ++ bytes_of 4 m.dest) i b → Put 8 b i (bytes_of 4 m.word ++ bytes_of 4 m.flag) j c
    → Put 8 c j (bytes_of 4 m.owner ++ bytes_of 4 m.hops) k d → Put 16 d k (bytes_of 8 m.routing ++ bytes_of 8 m.left) l e
    → Put 16 e l (bytes_of 8 m.right ++ bytes_of 8 m.failed) n f → Put 56 a at (encode message_widths (message_row m)) n f
unfolding encode
message-run m p q r s t = simp append_assoc at (follow p (follow q (follow r (follow s (ending t)))))

pub header-run : {a b c d e : List ℕ} {i j k o : ℕ} (m l n count : ℕ) → Put 8 a 0 (bytes_of 4 m ++ bytes_of 4 l) i b
    → Put 8 b i (bytes_of 4 n ++ bytes_of 4 count) j c → Put 8 c j (bytes_of 4 32 ++ bytes_of 4 (32 + 64 * n)) k d
    → Put 8 d k (bytes_of 4 (32 + 64 * n + 56 * count) ++ bytes_of 4 0) o e → Put 32 a 0 (encode header_widths (header_row m l n count)) o e
unfolding encode
header-run m l n count p q r s = simp append_assoc at (follow p (follow q (follow r (ending s))))

-- ---- records one after the other

rows_snoc : {A : Type 0} (f : A → List ℕ) (d : A) (ws : List ℕ) (xs : List A) (s : ℕ) → s < length xs
    → encode_all ws (map f (take (suc s) xs)) ≡ encode_all ws (map f (take s xs)) ++ encode ws (f (get_or xs s d))
unfolding encode_all
rows_snoc f d ws [] s h = absurd (omega arith)
rows_snoc f d ws (x ∷ xs) zero h = append-nil (encode ws (f x))
rows_snoc f d ws (x ∷ xs) (suc s) h =
    ap (λ (l : List ℕ). encode ws (f x) ++ l) (rows_snoc f d ws xs s (omega arith))
    ∙ sym (append_assoc (encode ws (f x)) (encode_all ws (map f (take s xs))) (encode ws (f (get_or xs s d))))

-- one record more
pub rows_more : {A : Type 0} (f : A → List ℕ) (ws : List ℕ) (size : ℕ) (xs : List A) (s : ℕ) (x : A) {a b c : List ℕ}
    {at i j : ℕ} → s < length xs → x ≡ get_or xs s x → Put (size * s) a at (encode_all ws (map f (take s xs))) i b
    → Put size b i (encode ws (f x)) j c → Put (size * (s + 1)) a at (encode_all ws (map f (take (s + 1) xs))) j c
rows_more f ws size xs s x h here p q =
    let e : size * (s + 1) ≡ size * s + size = omega arith in
    let more = rows_snoc f x ws xs s h ∙ ap (λ y. encode_all ws (map f (take s xs)) ++ encode ws (f y)) (sym here) in
    rw (e, add-one, more) (follow p q)

pub file-run : {a b c d : List ℕ} {i j k : ℕ} (t : Table) (p : Pool)
    → Put 32 a 0 (encode header_widths (header_row t.m t.l t.n p.count)) i b → Put (64 * t.n) b i (node_bytes t) j c
    → Put (56 * p.count) c j (message_bytes p) k d → Put (total_of t.n p.count) a 0 (file_of t p) k d
unfolding file_of
file-run t p x y z =
    let e : 32 + (64 * t.n + 56 * p.count) ≡ total_of t.n p.count = omega arith in
    rw e at (follow x (follow y z))

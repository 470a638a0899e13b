-- Two replies that a contract allows, with what each leaves in the list or buffer that was lent: both are what it says, so they are equal. Assumes nothing.
use mathlib.Core.Path.{◌≡◌, sym, ◌∙◌}

pub both-same : {A B : Type 0} {a a' c : A} {b b' d : B} → (a ≡ c) × (b ≡ d) → (a' ≡ c) × (b' ≡ d) → (a ≡ a') × (b ≡ b')
both-same h h' = (h.0 ∙ sym h'.0, h.1 ∙ sym h'.1)

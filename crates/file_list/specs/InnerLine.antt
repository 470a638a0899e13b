-- The line of a lookup that ended so, from the ids by slot. Definitions only. Assumes nothing.
use Rattle.marks.specs.Marks.{Found}
use Rattle.std.specs.Prelude.{List, [], ◌∷◌, ◌++◌, ℕ, get_or, Some, None}
use Rattle.rules.specs.declared.Message.{Message}
use Rattle.text.specs.Decimal.{decimal}
use Rattle.listing.specs.Print.{space, hops_text}

abbrev pub end_in : List ℕ → Found → List ℕ
end_in ids (Some e) = decimal (get_or ids e 0)
end_in ids None = 45 ∷ []

abbrev pub line_in : List ℕ → Message → Found → List ℕ → List ℕ
line_in ids m end letters =
    decimal m.word ++ (space ∷ (decimal (get_or ids m.dest 0) ++ (space ∷ (end_in ids end ++ (space ∷ hops_text letters)))))

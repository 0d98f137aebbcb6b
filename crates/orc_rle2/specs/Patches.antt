-- Patches: they give values of a run the bits above its width.
--
-- Source: Apache ORC specification v1, "Integer Run Length Encoding, version 2", patched base. That an entry with a gap
-- of 255 and patch 0 only moves, and that bits past 64 are lost, is this project's own.
use Rattle.std.specs.Prelude.{ℕ, ◌+◌, ◌*◌, ◌/◌, ◌%◌, ◌^◌, ◌==◌, ◌&&◌, Bool, List, [], ◌∷◌, length, Option, Some, None, nat_lt, slice_index, slice_set, if◌then◌else◌}
use Rattle.orc_rle2.specs.declared.patches.Shape.{Shape}

-- how far an entry is from the one before
abbrev pub gap_of : Shape → ℕ → ℕ
gap_of shape entry = entry / 2 ^ shape.patches % 2 ^ shape.gaps

abbrev pub patch_of : Shape → ℕ → ℕ
patch_of shape entry = entry % 2 ^ shape.patches

-- an entry that does no more than move the position
abbrev pub only_moves : Shape → ℕ → Bool
only_moves shape entry = (gap_of shape entry == 255) && (patch_of shape entry == 0)

-- the patch as the bits above the width, in the place of those that stand there
abbrev pub patched_value : ℕ → ℕ → ℕ → ℕ
patched_value width patch value = (value % 2 ^ width + patch * 2 ^ width) % 2 ^ 64

-- The values after all entries, from this position on, or none where one patches a position past the values.
abbrev pub patched : Shape → ℕ → List ℕ → List ℕ → Option (List ℕ)
patched shape position [] values = Some values
patched shape position (entry ∷ entries) values =
    let at = position + gap_of shape entry in
    if only_moves shape entry then patched shape at entries values
    else (if nat_lt at (length values) then patched shape at entries
    (slice_set values at (patched_value shape.values (patch_of shape entry) (slice_index values at))) else None)

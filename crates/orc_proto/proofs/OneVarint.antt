-- Both readers of varints go the same way, byte by byte.
use Rattle.std.proofs.Common.{ℕ, zero, suc, ◌+◌, ◌*◌, ◌%◌, ◌^◌, Bool, true, false, List, [], ◌∷◌, Result, Ok, Err, refl, ap}
use Rattle.std.specs.Prelude.{nat_lt, if◌then◌else◌}
use Rattle.outside.specs.declared.run_fault.RunFault.{RunFault}
use Rattle.outside.specs.declared.run_fault.RunFault.TheVariants.{StreamEnds, LongVarint as TooLong, PatchOutOfRun, PatchTooWide, Read}
use Rattle.outside.specs.Reading.{go_on, value}
use Rattle.outside.specs.Varint.{groups_within}
use Rattle.orc_proto.specs.declared.fault.WireFault.{WireFault}
use Rattle.orc_proto.specs.Reading.{◌>>=◌, groups_at, varint_at}
use Rattle.orc_proto.specs.OneVarint.{IsSame, IsOneVarint}

-- what both gave, seen by a function of the number
same_mapped : (f : ℕ → ℕ) (offset : ℕ) (stream : Result (ℕ × List ℕ) RunFault) (message : Result (ℕ × List ℕ) WireFault) → IsSame offset stream message
    → IsSame offset (go_on stream (λ x. value (f x))) (message >>= λ x. Ok (f x.0, x.1))
same_mapped f offset (Ok read) message same = ap (λ (m : Result (ℕ × List ℕ) WireFault). m >>= λ x. Ok (f x.0, x.1)) same
same_mapped f offset (Err StreamEnds) message same = ap (λ (m : Result (ℕ × List ℕ) WireFault). m >>= λ x. Ok (f x.0, x.1)) same
same_mapped f offset (Err TooLong) message same = ap (λ (m : Result (ℕ × List ℕ) WireFault). m >>= λ x. Ok (f x.0, x.1)) same
same_mapped f offset (Err PatchOutOfRun) message same = absurd same
same_mapped f offset (Err PatchTooWide) message same = absurd same
same_mapped f offset (Err (Read failed)) message same = absurd same

same_choice : (last : Bool) (offset : ℕ) (one others : Result (ℕ × List ℕ) RunFault) (first rest : Result (ℕ × List ℕ) WireFault) → IsSame offset one first → IsSame offset others rest
    → IsSame offset (if last then one else others) (if last then first else rest)
same_choice true offset one others first rest p q = p
same_choice false offset one others first rest p q = q

same_groups : (room offset : ℕ) (bytes : List ℕ) → IsSame offset (groups_within room bytes) (groups_at room offset bytes)
unfolding groups_within groups_at
same_groups zero offset bytes = refl
same_groups (suc room) offset [] = refl
same_groups (suc room) offset (byte ∷ bytes) =
    same_choice (nat_lt byte 128) offset (Ok (byte, bytes)) (go_on (groups_within room bytes) (λ high. value (byte % 128 + 128 * high)))
    (Ok (byte, bytes)) (groups_at room offset bytes >>= λ high. Ok (byte % 128 + 128 * high.0, high.1)) refl
    (same_mapped (λ high. byte % 128 + 128 * high) offset (groups_within room bytes) (groups_at room offset bytes) (same_groups room offset bytes))

pub one_varint : IsOneVarint
unfolding varint_at
one_varint offset bytes = same_mapped (λ groups. groups % 2 ^ 64) offset (groups_within 10 bytes) (groups_at 10 offset bytes) (same_groups 10 offset bytes)

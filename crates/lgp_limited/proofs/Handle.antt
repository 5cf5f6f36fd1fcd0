-- What both walks say of a `Limited` over the allocator B: its type, its two places, and what a call of it names.
use Rattle.std.proofs.Common.{◌≡◌, ℕ, ◌+◌, [], ◌∷◌}
use Rattle.std.proofs.alloc.Calls.{Al, α}
use denote.Builtin.{RefOf}
use denote.Param.{bounded, param}
use denote.Signature.{Slot, plain}
use mir.Syntax.{Ty, Args, a_type, dnil, dcons}
use prog.Memory.{size, align, capped, up}
use Rattle.lgp_limited.specs.contracts.limited.Limited as limited

-- that the methods' type parameter is B
abbrev pub over : Al → Args
over B = bounded (a_type ∷ []) (B.row, tt) (dcons B.d (dcons B.drops dnil))

-- the methods' parameter `&self`
abbrev pub self : Al → Slot 2
self B = RefOf (0 ∷ []) tt (plain (λ _. limited.the_row (param 0 B.row))) (λ _. tt)

-- where the inner allocator lies
abbrev pub inner_at : Al → ℕ × ℕ → ℕ × ℕ
inner_at B at = (at.0, at.1 + up (align (α B)) 0)

-- where the counts lie, after it
abbrev pub counts_at : Al → ℕ × ℕ → ℕ × ℕ
counts_at B at = (at.0, at.1 + up 8 (up (align (α B)) 0 + size (α B)))

-- the size and the alignment that a call names are those of the type that its block is for
abbrev pub IsAsked : Ty → ℕ → ℕ → Type 0
IsAsked ty bytes alignment = (capped (size ty) ≡ bytes) × (capped (align ty) ≡ alignment)

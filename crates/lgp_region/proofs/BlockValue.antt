-- The machine value of a block, its laws, and how one is made: of a pointer and the bytes at it.
use Rattle.std.proofs.Common.{ℕ, [], ◌∷◌, refl}
use seplogic.Ra.Ura.{Ura}
use mir.Val.{Val, vstruct, vcons, vnil}
use base.Logic.{ent}
use base.Fml.{Fml}
use types.Kit.{‵, ◌$◌, ◌∵◌, !, qed, use0, fjoin, done}
use types.Logic.{Logic, sem}
use denote.RawPtr.{Ptr, ptr_val}
use denote.Shadow.{makes_shadow}
use denote.Struct.Field.{row_field}
use denote.Struct.Laws.{FLaws}
use denote.Struct.Owning.{shape}
use denote.Struct.Struct.{Struct}
use denote.Param.Laws.{row_laws}
use Rattle.lgp_region.specs.Room.{bytes_at}
use Rattle.lgp_region.specs.contracts.block.Block as block
use Rattle.lgp_region.proofs.block.Block.TheLaws.{the_row_laws, the_told}

abbrev pub block_val : Ptr → Val
block_val at = vstruct (vcons (ptr_val at) vnil)

-- the laws of a block as a part of an option or of a pair
abbrev pub block_laws : FLaws (row_field block.the_row)
block_laws = row_laws block.the_row the_row_laws the_told

-- a block at a place, with a given number of bytes
abbrev pub block_at : Ptr → ℕ → Fml
block_at place bytes = (block.the_row).own_val (record { at = place; size = bytes }) (block_val place ∷ [])

pub block_made : {M : Type 1} {𝓤 : Ura M} (𝓛 : Logic 𝓤) (place : Ptr) (bytes : ℕ) → ent 𝓤 (sem 𝓛 (bytes_at place bytes)) (sem 𝓛 (block_at place bytes))
block_made 𝓛 place bytes =
    let field : Fml = (Struct (shape block.the_type)).own_val (place, tt) (block_val place ∷ []) in
    qed 𝓛 (‵ (bytes_at place bytes) ∷ []) ∵
    use0 𝓛 (‵ field) (makes_shadow 𝓛 field (λ _. (tt, (tt, tt))) ((ptr_val place ∷ [], tt), (refl, (refl, tt)))) $ fjoin ! $ done !

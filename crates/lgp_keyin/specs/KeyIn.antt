-- Part of the public promise. Storing words by the console (Operations Manual, "Manual input"): an
-- order to store is keyed into the accumulator and filled into the instruction register, the word
-- is keyed into the accumulator, and the order is executed.
use Rattle.std.specs.Prelude.{ℕ, ◌+◌, false, List, [], ◌∷◌, ◌++◌, map}
use Rattle.lgp_word.specs.Order.{plain_order}
use Rattle.lgp_word.specs.declared.order.Op.TheVariants.{H, U}
use Rattle.lgp_flexo.specs.WordCodes.{word_codes}
use Rattle.lgp_table.specs.State.{State}
use Rattle.lgp_table.specs.Activity.{next}
use Rattle.lgp_table.specs.Interleaving.{after_action, after_actions}
use Rattle.lgp_table.specs.declared.action.Action.{Action}
use Rattle.lgp_table.specs.declared.action.Action.TheVariants as actions
use Rattle.lgp_table.specs.declared.panel.Mode.TheVariants.{Normal, OneOperation, Manual}

-- the keys of a word's eight digits
abbrev pub word_keys : ℕ → List Action
word_keys word = map (λ code. actions.Key code) (word_codes word)

-- the orders h and u to an address
abbrev pub store_order : ℕ → ℕ
store_order address = plain_order H address

abbrev pub jump_order : ℕ → ℕ
jump_order address = plain_order U address

-- the twenty actions before a word is stored at an address
abbrev pub store_actions : ℕ → ℕ → List Action
store_actions address word =
    actions.Mode Manual ∷ (word_keys (store_order address)
    ++ (actions.Fill ∷ (word_keys word ++ (actions.Mode OneOperation ∷ actions.Execute ∷ []))))

-- the twelve actions before a jump to an address, and the two that set the machine going there
abbrev pub jump_actions : ℕ → List Action
jump_actions address =
    actions.Mode Manual ∷ (word_keys (jump_order address)
    ++ (actions.Fill ∷ actions.Mode OneOperation ∷ actions.Execute ∷ []))

abbrev pub going_actions : List Action
going_actions = actions.Mode Normal ∷ actions.Start ∷ []

abbrev pub start_actions : ℕ → List Action
start_actions address = jump_actions address ++ going_actions

-- about to store a word at an address
abbrev pub about_to_store : State → ℕ → ℕ → State
about_to_store s address word = after_actions s (store_actions address word)

-- words stored one after another from an address on
unfoldable pub words_keyed : State → ℕ → List ℕ → State
words_keyed s base [] = s
words_keyed s base (word ∷ words) = words_keyed (next (about_to_store s base word)) (base + 1) words

-- with 6 BIT INPUT up, so that the keys enter four bits each
abbrev pub with_four_bit_input : State → State
with_four_bit_input s = after_action s (actions.SixBit false)

-- words keyed in from an address on
abbrev pub keyed : State → ℕ → List ℕ → State
keyed s base words = words_keyed (with_four_bit_input s) base words

-- about to jump to an address, and set going there
abbrev pub about_to_jump : State → ℕ → State
about_to_jump s address = after_actions s (jump_actions address)

abbrev pub started : State → ℕ → State
started s address = after_actions (next (about_to_jump s address)) going_actions

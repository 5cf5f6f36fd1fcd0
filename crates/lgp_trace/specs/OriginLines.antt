-- Part of the public promise. What is written about where words came from. A label says what
-- comes after an address.
use Rattle.std.specs.Prelude.{ℕ, ◌++◌, ◌==◌, if◌then◌else◌, Option, Some, None, List, [], codes}
use Rattle.std.specs.Prelude.{decimal, is_some}
use Rattle.lgp_word.specs.Digits.{digits_of}
use Rattle.lgp_word.specs.Order.{decoded}
use Rattle.lgp_table.specs.State.{word_at}
use Rattle.lgp_history.specs.Origins.{latest_change}
use Rattle.lgp_history.specs.declared.origin.Changer.{Changer}
use Rattle.lgp_history.specs.declared.origin.Changer.TheVariants.{Order, Hand}
use Rattle.lgp_history.specs.declared.origin.Origin.{Origin}
use Rattle.lgp_history.specs.declared.origin.PastOrder.{PastOrder}
use Rattle.lgp_debugger.specs.Debugging.{Debugging}
use Rattle.lgp_trace.specs.AccountLines.{account_details, account_line, number_text, performed_text}
use Rattle.lgp_trace.specs.AccountLines.{place_text, word_text}
use Rattle.lgp_trace.specs.declared.account.Account.{Account}

-- where an order was
abbrev pub stood_text : (ℕ → List ℕ) → Option ℕ → List ℕ
stood_text label None = codes " in the instruction register"
stood_text label (Some place) = codes " at " ++ place_text label place

-- how many orders ago
abbrev pub ago_text : ℕ → List ℕ
ago_text orders =
    decimal orders ++ (if orders == 1 then codes " order ago" else codes " orders ago")

-- an order, where it was and when
unfoldable pub past_order_text : (ℕ → List ℕ) → PastOrder → List ℕ
past_order_text label order =
    performed_text label order.word ++ (stood_text label order.place
    ++ (codes ", clock " ++ (decimal order.clock ++ (codes ", " ++ ago_text order.orders_back))))

-- what changed a word, and when
unfoldable pub changer_text : (ℕ → List ℕ) → Changer → List ℕ
changer_text label (Order order) = past_order_text label order
changer_text label (Hand clock) = codes "hand, clock " ++ decimal clock

-- a lost word as the order that it is, or else by its digits and as a number
unfoldable pub lost_text : (ℕ → List ℕ) → ℕ → List ℕ
lost_text label word =
    if is_some (decoded word)
    then performed_text label word else digits_of word ++ (codes " = " ++ number_text word)

unfoldable pub this_order_was : List ℕ
this_order_was = codes "        this order was "

-- what put a word where it is, and what was there before
unfoldable pub origin_text : (ℕ → List ℕ) → Origin → List ℕ
origin_text label origin =
    codes "put there by " ++ (changer_text label origin.changer
    ++ (codes "; before it was " ++ (lost_text label origin.lost ++ codes "\n")))

-- below the line of an order that is not as it was when the kept steps begin
unfoldable pub origin_lines : (ℕ → List ℕ) → Option Origin → List ℕ
origin_lines label None = []
origin_lines label (Some origin) = this_order_was ++ origin_text label origin

-- an account with the origin of its order
unfoldable pub reported_account : (ℕ → List ℕ) → Account → Option Origin → List ℕ
reported_account label account origin =
    account_line label account ++ (origin_lines label origin ++ account_details label account)

-- why a word is as it is
unfoldable pub reason_text : (ℕ → List ℕ) → Option Origin → List ℕ
reason_text label None = codes "changed by no kept step\n"
reason_text label (Some origin) = origin_text label origin

unfoldable pub why_line : (ℕ → List ℕ) → ℕ → ℕ → Option Origin → List ℕ
why_line label address word origin =
    place_text label address
    ++ (codes ": " ++ (word_text label word ++ (codes ", " ++ reason_text label origin)))

-- the same of a debugger's drum and kept steps
abbrev pub why_text : (ℕ → List ℕ) → Debugging → ℕ → List ℕ
why_text label d address =
    why_line label address (word_at d.state.core address) (latest_change address d.steps)

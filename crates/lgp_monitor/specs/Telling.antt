-- Part of the public promise: what is written about the orders of a run, with names as labels of
-- the addresses that are their values.
use Rattle.std.specs.Prelude.{ℕ, ◌==◌, ◌++◌, List, [], Option, codes, find}
use Rattle.std.specs.Option.{option_map_or}
use Rattle.lgp_table.specs.After.{after}
use Rattle.lgp_table.specs.State.{State}
use Rattle.lgp_history.specs.declared.origin.Origin.{Origin}
use Rattle.lgp_trace.specs.DrumRows.{rows_begun, rows_ended}
use Rattle.lgp_optimum.specs.Gains.{moves_of}
use Rattle.lgp_optimum.specs.OptimumLines.{optimum_text, word_text}
use Rattle.lgp_trace.specs.AccountLines.{heading_text}
use Rattle.lgp_trace.specs.OriginLines.{reported_account}
use Rattle.lgp_trace.specs.Profile.{Profiled, profile_of}
use Rattle.lgp_trace.specs.ProfileLines.{profile_text}
use Rattle.lgp_trace.specs.Runs.{drawn, reported}
use Rattle.lgp_fields.specs.Printed.{record_in}
use Rattle.lgp_data.specs.AccountData.{account_in}
use Rattle.lgp_data.specs.ProfileData.{profile_in}
use Rattle.lgp_data.specs.OptimumData.{optimum_in, word_moves_record}
use Rattle.lgp_monitor.specs.declared.telling.Report.{Report}
use Rattle.lgp_monitor.specs.declared.telling.Report.TheVariants as reports
use Rattle.lgp_monitor.specs.declared.telling.Telling.{Telling}
use Rattle.lgp_monitor.specs.declared.telling.Telling.TheVariants as tellings

-- the form in which it is written
abbrev pub form_of : Telling → Report
form_of (tellings.Trace form) = form
form_of (tellings.Profile form) = form
form_of tellings.Drum = reports.Columns
form_of (tellings.Optimum form) = form
form_of (tellings.OptimumOf form word) = form

-- what comes after an address: a blank and the first name that has it as its value, or nothing
unfoldable pub label_of : List (List ℕ × ℕ) → ℕ → List ℕ
label_of names address =
    option_map_or (λ name. codes " " ++ name.0) (find (λ name. name.1 == address) names) []

-- the profile of a given number of orders in a form
abbrev pub profile_text_in : Report → List (List ℕ × ℕ) → ℕ → Profiled → List ℕ
profile_text_in reports.Columns names orders profile = profile_text (label_of names) orders profile
profile_text_in (reports.Records form) names orders profile = profile_in form names orders profile

-- what is written about a given number of orders from a state on
unfoldable pub reported_text : Telling → List (List ℕ × ℕ) → State → (ℕ → Option Origin) → ℕ
    → List ℕ
-- the account of each order with where its order came from, in columns below a heading, or as records
reported_text (tellings.Trace reports.Columns) names s origins orders =
    heading_text ++ reported (reported_account (label_of names)) s origins orders
reported_text (tellings.Trace (reports.Records form)) names s origins orders =
    reported (account_in form names) s origins orders
-- what all orders took together, in a form
reported_text (tellings.Profile form) names s origins orders =
    profile_text_in form names orders (profile_of s orders)
-- the rows of the drum, from the turn in which the first order begins
reported_text tellings.Drum names s origins orders =
    rows_begun s.clock ++ (drawn s orders ++ rows_ended (after s orders).clock)
-- which words would have cost less at other sectors, and what one word would have cost at each
reported_text (tellings.Optimum reports.Columns) names s origins orders =
    optimum_text (label_of names) orders (moves_of s orders)
reported_text (tellings.Optimum (reports.Records form)) names s origins orders =
    optimum_in form names orders (moves_of s orders)
reported_text (tellings.OptimumOf reports.Columns word) names s origins orders =
    word_text (label_of names) orders (moves_of s orders) word
reported_text (tellings.OptimumOf (reports.Records form) word) names s origins orders =
    record_in form (word_moves_record names orders (moves_of s orders) word)

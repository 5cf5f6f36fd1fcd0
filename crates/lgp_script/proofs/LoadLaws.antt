-- What loading by a script and by the program leaves.
use Rattle.std.proofs.Common.{◌≡◌, ℕ, ◌+◌, ◌∙◌, None, Some, List, [], length, zero-add}
use Rattle.std.proofs.lemmas.List.{length-replicate}
use Rattle.lgp_word.specs.Drum.{blank_words}
use Rattle.lgp_table.specs.State.{opening}
use Rattle.lgp_assembler.specs.Image.{faults_of, image_of}
use Rattle.lgp_loader.specs.BlockLoading.{longest_load}
use Rattle.lgp_loader.specs.LoadedOver.{IsLoadedOver}
use Rattle.lgp_loader.specs.Loading.{loading_cost, loading_stopped}
use Rattle.lgp_loader.proofs.Program.{loading_clock}
use Rattle.lgp_loader.proofs.SourceLoaded.{longest_source}
use Rattle.lgp_script.specs.Files.{loaded_new}
use Rattle.lgp_script.specs.LoadCommand.{replied_to_load}
use Rattle.lgp_script.specs.LabState.{LabState}

pub load_words : (lab : LabState) (source : List ℕ) → lab.source ≡ Some source → faults_of source ≡ []
    → length lab.debugger.state.core.words ≡ 4096 → loading_stopped lab.debugger.state (longest_load (image_of source)) ≡ None
    → IsLoadedOver 22 lab.debugger.state.core.words (replied_to_load lab).after.debugger.state.core.words (image_of source).cells
unfolding replied_to_load
load_words lab source at_hand none long within =
    rw (at_hand, within) (longest_source lab.debugger.state _ long none)

pub load_time : (lab : LabState) (source : List ℕ) → lab.source ≡ Some source
    → loading_stopped lab.debugger.state (longest_load (image_of source)) ≡ None
    → (replied_to_load lab).after.debugger.state.clock ≡ lab.debugger.state.clock + loading_cost lab.debugger.state (longest_load (image_of source))
unfolding replied_to_load
load_time lab source at_hand within =
    rw (at_hand, within) (loading_clock _ _)

pub ruleset load_laws = (load_words, load_time)

-- a drum without words has 4,096 places
size_blank : length blank_words ≡ 4096
unfolding blank_words
size_blank = length-replicate {A = ℕ} 4096 0

pub run_words : (source : List ℕ) → faults_of source ≡ [] → IsLoadedOver 22 blank_words (loaded_new source).core.words (image_of source).cells
run_words source none = longest_source (opening blank_words) _ size_blank none

pub run_time : (source : List ℕ) → (loaded_new source).clock ≡ loading_cost (opening blank_words) (longest_load (image_of source))
run_time source = loading_clock _ _ ∙ zero-add (loading_cost (opening blank_words) (longest_load (image_of source)))

pub ruleset run_laws = (run_words, run_time)

-- What loading leaves of a source without faults.
use Rattle.std.proofs.Common.{◌≡◌, ℕ, true, List, [], length}
use Rattle.lgp_table.specs.State.{State}
use Rattle.lgp_assembler.specs.Image.{faults_of, image_of}
use Rattle.lgp_assembler.proofs.CellLaws.{places_apart, places_filled, start_on_drum}
use Rattle.lgp_loader.specs.BlockLoading.{cut_load, longest_load}
use Rattle.lgp_loader.specs.Cutting.{is_cutting}
use Rattle.lgp_loader.specs.LoadedOver.{IsLoadedOver}
use Rattle.lgp_loader.specs.Loading.{loaded}
use Rattle.lgp_loader.specs.SingleLoading.{single_load}
use Rattle.lgp_loader.proofs.Loads.{cut_over, longest_over}
use Rattle.lgp_loader.proofs.Program.{single_over}

pub longest_source : (s : State) (source : List ℕ) → length s.core.words ≡ 4096 → faults_of source ≡ []
    → IsLoadedOver 22 s.core.words (loaded s (longest_load (image_of source))).core.words (image_of source).cells
longest_source s source long none =
    longest_over s (image_of source) long (places_filled _ none) (places_apart _ none) (start_on_drum _)

pub cut_source : (s : State) (source counts : List ℕ) → length s.core.words ≡ 4096 → faults_of source ≡ [] → is_cutting counts (image_of source).cells ≡ true
    → IsLoadedOver 22 s.core.words (loaded s (cut_load (image_of source) counts)).core.words (image_of source).cells
cut_source s source counts long none cut =
    cut_over s (image_of source) _ long cut (places_filled _ none) (places_apart _ none) (start_on_drum _)

pub single_source : (s : State) (source : List ℕ) → length s.core.words ≡ 4096 → faults_of source ≡ []
    → IsLoadedOver 10 s.core.words (loaded s (single_load (image_of source))).core.words (image_of source).cells
single_source s source long none =
    single_over s _ long (places_filled _ none) (places_apart _ none) (start_on_drum _)

pub ruleset source_loaded = (longest_source, cut_source, single_source)

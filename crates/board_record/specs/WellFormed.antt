-- When a record is well formed (document 01, "The board and its record"), clause by clause. Assumes nothing.
use Rattle.std.specs.Prelude.{ℕ, Bool, true, false, not, ◌&&◌, List, eqb, leb, get_or, None, Option, Some}
use Rattle.basics.specs.Choice.{pick}
use Rattle.basics.specs.Every.{all_below}
use Rattle.cpuset.specs.Set.{has_of, none_of, below_of, same_of, within_of, count_of}
use Rattle.cpuset.specs.declared.CpuSet.{CpuSet}
use Rattle.board.specs.Description.{most_components, most_cpus, numbered_of, is_capable, may_reset_at, good_entry}
use Rattle.board.specs.Packed.{board_stands}
use Rattle.board.specs.declared.Board.{Board}
use Rattle.board.specs.declared.Component.{Component}
use Rattle.board_record.specs.Record.{subject_of, holding_of, is_rendezvous, skips_rendezvous, is_pending, version_of}
use Rattle.board_record.specs.declared.State.{State}
use Rattle.board_record.specs.declared.Holding.{Holding}
use Rattle.board_record.specs.declared.Holding.TheVariants.{Nobody, One, Part, All}
use Rattle.board_record.specs.declared.Record.{Record}

-- "well formed" (Board 5): counts, flags, UUIDs and range in `board_stands`. What has to be 0: components there, images in
-- `images_stand`, CPUs in the sets and `entries_stand`

-- the powered CPUs (Board 5): the board has them, and there is at least one
unfoldable pub powered_stand : ℕ → CpuSet → Bool
powered_stand cpus on = not (same_of on none_of) && within_of on (below_of cpus)

-- what may be pending (Board 5); where none is pending the version is 0
unfoldable pub image_stands : Bool → Bool → ℕ → Bool
image_stands capable pending version = pick pending capable (eqb version 0)

abbrev pub image_at : Board → List Bool → List ℕ → ℕ → Bool
image_at b pending version i = image_stands (is_capable b i) (is_pending pending i) (version_of version i)

unfoldable pub images_stand : Board → List Bool → List ℕ → Bool
images_stand b pending version = all_below most_components (image_at b pending version)

-- the state's component and its image (Board 5), and what "Alone and half-activated" ask of it (Board 7)
unfoldable pub subject_stands : Component → Bool → Bool → ℕ → Bool
subject_stands c alone pending version = pending && (leb c.svn version && pick alone c.optional true)

abbrev pub stands_by : Board → List Bool → List ℕ → Bool → Option ℕ → Bool
stands_by b pending version alone None = true
stands_by b pending version alone (Some c) =
    subject_stands (numbered_of b c) alone (is_pending pending c) (version_of version c)

unfoldable pub state_stands : Board → List Bool → List ℕ → State → Bool
state_stands b pending version s = stands_by b pending version (skips_rendezvous s) (subject_of s)

-- "Held CPUs" (Board 6): one, some and not all, all, or nobody
abbrev pub held_by : Holding → CpuSet → CpuSet → Bool
held_by Nobody on held = same_of held none_of
held_by One on held = within_of held on && eqb (count_of held) 1
held_by Part on held = not (same_of held none_of) && (not (same_of held on) && within_of held on)
held_by All on held = same_of held on

unfoldable pub held_stand : State → CpuSet → CpuSet → Bool
held_stand s on held = held_by (holding_of s) on held

-- "the entries and context ids" (Board 3): whose are kept; in alone nobody's, since no component is both optional and
-- may_reset
abbrev pub may_reset_by : Board → Option ℕ → Bool
may_reset_by b None = false
may_reset_by b (Some c) = may_reset_at b c

abbrev pub keeps_entries : Board → State → Bool
keeps_entries b s = is_rendezvous s && may_reset_by b (subject_of s)

abbrev pub keepers_of : Board → State → CpuSet → CpuSet
keepers_of b s held = pick (keeps_entries b s) held none_of

-- the entry of a held CPU "is valid" (Board 8); 0 elsewhere
unfoldable pub entry_stands : ℕ → ℕ → Bool → ℕ → ℕ → Bool
entry_stands first last keeps entry context = pick keeps (good_entry first last entry) (eqb entry 0 && eqb context 0)

abbrev pub entry_at : ℕ → ℕ → CpuSet → List ℕ → List ℕ → ℕ → Bool
entry_at first last keepers entry context i = entry_stands first last (has_of keepers i) (get_or entry i 0) (get_or context i 0)

unfoldable pub entries_stand : ℕ → ℕ → CpuSet → List ℕ → List ℕ → Bool
entries_stand first last keepers entry context = all_below most_cpus (entry_at first last keepers entry context)

-- what the board is at: the state, the held CPUs and their entries
unfoldable pub work_stands : Record → Bool
work_stands r =
    state_stands r.board r.pending r.version r.state
    && (held_stand r.state r.on r.held
    && entries_stand r.board.first r.board.last (keepers_of r.board r.state r.held) r.entry r.context)

-- what stands past the board
unfoldable pub rest_stands : Record → Bool
rest_stands r =
    powered_stand r.board.cpus r.on && (images_stand r.board r.pending r.version && work_stands r)

unfoldable pub well_formed : Record → Bool
well_formed r = board_stands r.board && rest_stands r

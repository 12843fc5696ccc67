-- The files of a board.
use Rattle.std.specs.Prelude.{ℕ, List, Option, option_map}
use Rattle.view_sessions.specs.declared.board_file.BoardFile.{BoardFile}
use Rattle.view_sessions.specs.declared.board_file.BoardFile.TheVariants as file
use Rattle.service_views.specs.declared.board.Board.{Board}

abbrev pub board_bytes : Board → BoardFile → Option (List ℕ)
board_bytes board file.Page = option_map (λ bytes. bytes.items) board.page
board_bytes board file.Script = option_map (λ bytes. bytes.items) board.script
board_bytes board file.Style = option_map (λ bytes. bytes.items) board.style

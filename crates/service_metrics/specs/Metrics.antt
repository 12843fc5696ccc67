-- The metrics of a service, in Prometheus' text format, version 0.0.4. Their names are defined by this project.
use Rattle.std.specs.Prelude.{ℕ, List, ◌++◌}
use Rattle.table_model.specs.TableState.{TableState}
use Rattle.table_views.specs.TableMetrics.{table_metrics}
use Rattle.service_metrics.specs.Counters.{CountersState, count_lines}
use Rattle.service_metrics.specs.Gauges.{client_lines, file_lines, program_lines, silence_lines, standing_lines}
use Rattle.service_metrics.specs.declared.gauges.Gauges.{Gauges}

-- what the service has done, and how it stands
abbrev pub service_lines : Gauges → CountersState → List ℕ
service_lines g counters =
    program_lines g.version.now g.uptime ++ client_lines g.hooks g.runners g.views ++ silence_lines g.silence
    ++ standing_lines g.standing ++ count_lines counters ++ file_lines g.area g.room g.generation g.checkpoints

-- and its table
abbrev pub metrics_text : Gauges → CountersState → TableState → List ℕ
metrics_text gauges counters t = service_lines gauges counters ++ table_metrics t

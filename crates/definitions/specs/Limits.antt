-- The limits of this project. GitHub's documentation names the 256 jobs of a matrix; the others are decisions of this project.
use Rattle.std.specs.Prelude.{ℕ}

-- ---- bodies and workflows

-- bytes of a script, and of the input of a check and of a lint
abbrev pub max_input : ℕ
max_input = 1048576

-- bytes of a body
abbrev pub max_body : ℕ
max_body = 65536

-- jobs of a workflow
abbrev pub max_jobs : ℕ
max_jobs = 256

-- bytes of a job id
abbrev pub max_job_id : ℕ
max_job_id = 100

-- the lengths of a matrix's lists, multiplied
abbrev pub max_choices : ℕ
max_choices = 4096

-- legs of a job
abbrev pub max_legs : ℕ
max_legs = 256

-- the highest `max-parallel`
abbrev pub max_parallel : ℕ
max_parallel = 256

-- references of a template, in all pieces together
abbrev pub max_references : ℕ
max_references = 32

-- ---- fields of a line

-- bytes of a small text: a delivery, an event's name, a runner's name, a label of a runner
abbrev pub max_text_bytes : ℕ
max_text_bytes = 64

-- labels of a runner
abbrev pub max_labels : ℕ
max_labels = 16

-- the highest number of a command, of a run, of a lease and of a runner's line
abbrev pub last_number : ℕ
last_number = 999999999

-- ---- a table and its history

abbrev pub max_runs : ℕ
max_runs = 100000

-- the last attempt of a run
abbrev pub last_attempt : ℕ
last_attempt = 1000

-- entries of a history
abbrev pub max_entries : ℕ
max_entries = 100000

-- ---- a store, in bytes of each of its two areas

abbrev pub min_area : ℕ
min_area = 4096

abbrev pub max_area : ℕ
max_area = 1073741824

-- ---- sessions

-- bytes of a request's head, and its fields
abbrev pub max_head : ℕ
max_head = 8192

abbrev pub max_fields : ℕ
max_fields = 64

-- requests of a webhook session
abbrev pub max_requests : ℕ
max_requests = 64

-- bytes of a runner's line, with its line feed
abbrev pub max_line : ℕ
max_line = 512

-- lines of a runner's session
abbrev pub max_lines : ℕ
max_lines = 1024

-- ---- how much is written and read at a time. Decisions of this project

-- the most bytes of a checkpoint that one call writes
abbrev pub max_slice : ℕ
max_slice = 4096

-- bytes of an area that an opening reads first
abbrev pub first_read : ℕ
first_read = 65536

-- ---- how much is taken from a client at a time, and how much of its answers waits. Decisions of this project

-- requests that are taken at a time
abbrev pub max_taken : ℕ
max_taken = 16

-- A client's next request is taken only while fewer bytes of answers than these are withheld from it.
abbrev pub max_withheld : ℕ
max_withheld = 65536

-- ---- how many lines are kept, and how many a page has. Decisions of this project

abbrev pub most_kept : ℕ
most_kept = 20000

abbrev pub page_lines : ℕ
page_lines = 1000

-- ---- how far a page looks. A decision of this project

-- the most indices at which a page looks
abbrev pub most_looked : ℕ
most_looked = 10000

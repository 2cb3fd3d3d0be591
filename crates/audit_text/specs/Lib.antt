pub mod AuditText
